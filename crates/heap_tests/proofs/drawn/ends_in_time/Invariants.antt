use Rattle.std.proofs.Common.{◌≡◌, None}
use Rattle.heap_tests.proofs.drawn.ends_in_time.Given as goal

abbrev pub invariant-loop-command : goal.invariant-loop-command
invariant-loop-command l = (l.system.config ≡ l.fn.system.config) × (l.system.ordered ≡ None)
