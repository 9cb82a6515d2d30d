use Rattle.heap_machine.proofs.ChangingPhaseKnown.{changing_knows, turn_of}
use Rattle.heap_machine.proofs.phase_laws.what_the_closing_thread_knows.Goals as goal

pub returns : goal.returns
returns c = record { kept = changing_knows; own = turn_of }
