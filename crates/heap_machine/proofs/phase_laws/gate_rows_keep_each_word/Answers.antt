use Rattle.heap_machine.proofs.ChangingPhaseKnown.{passing_held, changing_held}
use Rattle.heap_machine.proofs.phase_laws.gate_rows_keep_each_word.Goals as goal

pub returns : goal.returns
returns c = record { passes = passing_held; turns = changing_held }
