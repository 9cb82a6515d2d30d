use Rattle.heap_system.proofs.Lemmas.{reached_kept}
use Rattle.rtheap_core.proofs.schedules.ReplayEnds.{serial_turns, opening_many}
use Rattle.rtheap_core.proofs.schedules.laws.serial_turns_are_serial.Goals as goal

pub returns-clause-reached : goal.returns-clause-reached
returns-clause-reached _ c s turns is = serial_turns c s turns (reached_kept c s is).threads

pub returns-clause-opening : goal.returns-clause-opening
returns-clause-opening _ c traces s turns job start = serial_turns c s turns (opening_many c traces s job start)
