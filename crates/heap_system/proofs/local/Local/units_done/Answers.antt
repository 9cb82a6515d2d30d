use Rattle.std.proofs.Common.{ap, arith}
use Rattle.heap_system.specs.Locals.{LocalState, works}
use Rattle.heap_system.proofs.accounting.OwedAndPaid.{view_of, worked_low}
use Rattle.heap_system.proofs.local.Local.units_done.Goals as goal

pub returns-clause-few : goal.returns-clause-few
returns-clause-few c = omega (arith, worked_low (view_of c.self.inside) c.self.invariant.0, c.work.ensures.sum, ap (λ (l : LocalState). works l.log) c.self.view_is)
