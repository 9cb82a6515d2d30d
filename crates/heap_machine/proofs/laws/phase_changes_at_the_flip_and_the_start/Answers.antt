use Rattle.heap_machine.proofs.Turnovers.{changing_cycle, changing_phase, flip_phase, start_phase}
use Rattle.heap_machine.proofs.laws.phase_changes_at_the_flip_and_the_start.Goals as goal

pub returns : goal.returns
returns c = record { cycle = changing_cycle; phase = changing_phase; flip = flip_phase; start = start_phase }
