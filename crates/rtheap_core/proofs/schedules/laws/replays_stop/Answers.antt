use Rattle.rtheap_core.proofs.schedules.DoneThreads.{stops}
use Rattle.rtheap_core.proofs.schedules.laws.replays_stop.Goals as goal

pub returns : goal.returns
returns _ c schedule r few many low all = stops schedule c 0 r few many low all
