use Rattle.std.proofs.Common.{◌≡◌, ◌≤◌, ◌+◌, ◌*◌}
use Rattle.rate_plan.specs.solo_bound.Near.{farthest}
use Rattle.rt_check.proofs.rt_limit.prices.farthest_turns.Given as goal

abbrev pub invariant-loop-list : goal.invariant-loop-list
invariant-loop-list l =
    (l.turns + farthest l.list l.left ≡ farthest l.threads l.passes)
    × (l.turns + 16 * l.list ≤ 16 * l.threads)
