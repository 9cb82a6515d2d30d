use Rattle.heap_machine.proofs.ChangingPhaseKnown.{changes_nothing, goes_nowhere}
use Rattle.heap_machine.proofs.phase_laws.closed_gates_keep_others_out.Goals as goal

pub returns : goal.returns
returns c = record { heap = changes_nothing; row = goes_nowhere }
