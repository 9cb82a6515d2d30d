use Rattle.std.proofs.Common.{ap, arith}
use Rattle.heap_system.specs.Locals.{works}
use Rattle.heap_system.proofs.accounting.OwedAndPaid.{view_of, worked_low}
use Rattle.heap_system.proofs.local.Local.work.Goals as goal

pub sum_of_works-requires : goal.sum_of_works-requires
sum_of_works-requires c = omega (arith, worked_low (view_of c.self.inside) c.self.invariant.0, ap works c.deref.ensures.value)

pub returns-clause-small : goal.returns-clause-small
returns-clause-small c = omega (arith, worked_low (view_of c.self.inside) c.self.invariant.0, c.sum_of_works.ensures, ap works c.deref.ensures.value)
