use Rattle.heap_machine.proofs.ChangingPhaseKnown.{none_at_flip}
use Rattle.heap_machine.proofs.phase_laws.nothing_is_grey_at_the_flip.Goals as goal

pub returns : goal.returns
returns c = none_at_flip
