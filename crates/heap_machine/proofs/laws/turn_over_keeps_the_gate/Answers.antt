use Rattle.heap_machine.proofs.Turnovers.{changing_kept}
use Rattle.heap_machine.proofs.laws.turn_over_keeps_the_gate.Goals as goal

pub returns : goal.returns
returns c = changing_kept
