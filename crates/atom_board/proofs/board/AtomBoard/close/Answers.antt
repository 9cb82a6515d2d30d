use Rattle.std.proofs.Common.{ap}
use Rattle.atom_board.specs.Mutators.{BoardState}
use Rattle.atom_board.proofs.MutatorsInOrder.{ordered_each, ordered_done, ordered_logs, ordered_counted}
use Rattle.atom_board.proofs.board.AtomBoard.close.Goals as goal

pub close_in_order-requires-clause-mutators : goal.close_in_order-requires-clause-mutators
close_in_order-requires-clause-mutators c = ordered_each c.args.self c.self.inside.config.threads c.args.who.items c.ordered-mutators.result.items (ap (λ (b : BoardState). b.config.threads) c.self.view_is) c.requires.mutators c.ordered-mutators.ensures.count c.ordered-mutators.ensures.order c.ordered-mutators.ensures.same

pub close_in_order-requires-clause-done : goal.close_in_order-requires-clause-done
close_in_order-requires-clause-done c = ordered_done c.args.who.items c.ordered-mutators.result.items c.requires.done c.ordered-mutators.ensures.same

pub returns-clause-logs : goal.returns-clause-logs
returns-clause-logs c =
    ordered_logs c.args.self c.args.who.items c.ordered-mutators.result.items c.close_in_order.result.logs
    (ordered_each c.args.self c.self.inside.config.threads c.args.who.items c.ordered-mutators.result.items (ap (λ (b : BoardState). b.config.threads) c.self.view_is) c.requires.mutators c.ordered-mutators.ensures.count c.ordered-mutators.ensures.order c.ordered-mutators.ensures.same)
    c.ordered-mutators.ensures.same c.close_in_order.ensures.logs

pub returns-clause-counted : goal.returns-clause-counted
returns-clause-counted c = ordered_counted c.args.self.config c.args.self.traces c.args.who.items c.ordered-mutators.result.items c.close_in_order.result.logs c.close_in_order.result.cycles c.ordered-mutators.ensures.same c.close_in_order.ensures.counted

pub returns-clause-finished : goal.returns-clause-finished
returns-clause-finished c = c.close_in_order.ensures.counted.finished
