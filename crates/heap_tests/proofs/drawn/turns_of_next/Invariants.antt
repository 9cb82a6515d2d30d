use Rattle.std.proofs.Common.{◌≡◌, None}
use Rattle.heap_tests.proofs.drawn.turns_of_next.Given as goal

abbrev pub invariant-loop-turns : goal.invariant-loop-turns
invariant-loop-turns l = (l.system.config ≡ l.fn.system.config) × (l.system.ordered ≡ None)
