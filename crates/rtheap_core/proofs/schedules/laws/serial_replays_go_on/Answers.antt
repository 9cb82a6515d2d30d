use Rattle.rtheap_core.proofs.schedules.Runs.{goes_on}
use Rattle.rtheap_core.proofs.schedules.laws.serial_replays_go_on.Goals as goal

pub returns : goal.returns
returns _ c traces few more r is = goes_on c traces few more r is
