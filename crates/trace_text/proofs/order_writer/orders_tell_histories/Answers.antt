use Rattle.trace_text.proofs.InOrder.{is_order, makes_history, texts_agree}
use Rattle.trace_text.proofs.order_writer.orders_tell_histories.Goals as goal

pub returns-clause-history : goal.returns-clause-history
returns-clause-history c = makes_history

pub returns-clause-order : goal.returns-clause-order
returns-clause-order c = is_order

pub returns-clause-text : goal.returns-clause-text
returns-clause-text c = texts_agree
