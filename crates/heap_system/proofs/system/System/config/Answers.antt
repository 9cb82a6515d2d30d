use Rattle.std.proofs.Common.{subst}
use Rattle.heap_system.specs.Systems.{Whole, IsReached}
use Rattle.heap_system.proofs.system.System.config.Goals as goal

pub returns-clause-reached : goal.returns-clause-reached
returns-clause-reached c = subst (λ (w : Whole). IsReached w.config w.state) c.self.view_is c.self.invariant.reached
