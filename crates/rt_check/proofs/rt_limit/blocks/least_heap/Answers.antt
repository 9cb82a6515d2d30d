use Rattle.std.proofs.Common.{arith}
use Rattle.rt_check.proofs.rt_limit.blocks.least_heap.Goals as goal

pub returns-clause-rate : goal.returns-clause-rate
returns-clause-rate c =
    let is = c.in-Ok.ensures in
    let small = c.one_rate.ensures.small _ c.in-Ok.own is.0 is.1 in
    (is.1.some, omega (arith, small, c.in_ok-blocks.ensures.enough.in_bounds.blocks))
