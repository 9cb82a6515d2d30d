use Rattle.trace_text.proofs.EachInput.{either}
use Rattle.trace_text.proofs.WholeLaws.{apart, one_first}
use Rattle.trace_text.proofs.reading.inputs_are_told_apart.Goals as goal

pub returns : goal.returns
returns c = record { either = either; apart = apart; one = one_first }
