use Rattle.std.proofs.Common.{◌≡◌, ◌-◌, ◌≤◌, IfSome}
use Rattle.heap_tests.proofs.ordered.run.Given as goal

abbrev pub invariant-loop-turn : goal.invariant-loop-turn
invariant-loop-turn l = (l.system.config.threads ≡ 1) × IfSome l.system.ordered (λ o. l.turns - l._turn ≤ o.left)
