use Rattle.std.proofs.Common.{arith}
use Rattle.heap_system.proofs.openings.SystemStart.{units_at}
use Rattle.heap_system.proofs.system.sum_of_works.Goals as goal

pub overflow_add-sum : goal.overflow_add-sum
overflow_add-sum c = omega (arith, c.work-sum.ensures.small, c.loop-local.invariant.1, c.requires, c.loop-local-test.true)

pub loop-local-preserved : goal.loop-local-preserved
loop-local-preserved c = (
  omega (arith, c.loop-local.invariant.0, c.work-sum.ensures.sum, units_at c.args.locals.now c.loop-local.local-index c.local-item.result c.loop-local-test.true c.local-item.is),
  omega (arith, c.work-sum.ensures.small, c.loop-local.invariant.1),
  omega arith,
)
