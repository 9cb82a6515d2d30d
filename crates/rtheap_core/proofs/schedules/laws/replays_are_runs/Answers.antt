use Rattle.std.proofs.Common.{refl}
use Rattle.heap_system.specs.Machines.{opened, after_turns}
use Rattle.rtheap_core.specs.schedules.Schedules.{turns_of}
use Rattle.rtheap_core.proofs.schedules.Runs.{turns_shown}
use Rattle.rtheap_core.proofs.schedules.laws.replays_are_runs.Goals as goal

pub returns : goal.returns
returns _ w traces schedule turns opens starts = (
  after_turns w.config (opened w.config w.state) (turns_of schedule w.config w.state turns),
  record { first = w.state; opening = opens; replayed = refl },
  turns_shown w (turns_of schedule w.config w.state turns) w.config (opened w.config w.state) (record { config = refl; state = refl; order = starts }),
)
