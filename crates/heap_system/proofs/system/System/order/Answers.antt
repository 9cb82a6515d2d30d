use Rattle.std.proofs.Common.{subst}
use Rattle.heap_system.specs.Systems.{Whole, IsReachedInOrder, items_kept}
use Rattle.heap_system.proofs.history.OrderKept.{reached_in_order}
use Rattle.heap_system.proofs.system.System.order.Goals as goal

pub returns-clause-reached : goal.returns-clause-reached
returns-clause-reached c = subst (λ (w : Whole). IsReachedInOrder w.config w.state (items_kept w.ordered)) c.self.view_is (reached_in_order c.self.inside.config (record { words = c.self.inside.words; locals = c.self.inside.locals.items }) c.self.inside.order c.self.invariant)
