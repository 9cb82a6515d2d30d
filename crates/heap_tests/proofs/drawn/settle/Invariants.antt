use Rattle.std.proofs.Common.{◌≡◌, None}
use Rattle.heap_tests.proofs.drawn.settle.Given as goal

abbrev pub invariant-loop-round : goal.invariant-loop-round
invariant-loop-round l = (l.system.config ≡ l.fn.system.config) × (l.system.ordered ≡ None)

abbrev pub invariant-loop-thread : goal.invariant-loop-thread
invariant-loop-thread l = (l.system.config ≡ l.fn.system.config) × (l.system.ordered ≡ None)
