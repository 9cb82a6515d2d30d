use Rattle.trace_text.proofs.InOrder.{none_told}
use Rattle.trace_text.proofs.order_writer.Place.new.Goals as goal

pub returns-clause-told : goal.returns-clause-told
returns-clause-told c = none_told 256
