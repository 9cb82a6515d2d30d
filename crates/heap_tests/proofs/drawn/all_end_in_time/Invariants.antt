use Rattle.std.proofs.Common.{◌≡◌, None}
use Rattle.heap_tests.proofs.drawn.all_end_in_time.Given as goal

abbrev pub invariant-loop-thread : goal.invariant-loop-thread
invariant-loop-thread l = (l.system.config ≡ l.fn.system.config) × (l.system.ordered ≡ None)
