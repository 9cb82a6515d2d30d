use Rattle.rtheap_core.proofs.schedules.ReplayEnds.{serial_replay_ends, single_replay_ends}
use Rattle.rtheap_core.proofs.schedules.laws.replays_end.Goals as goal

pub returns-clause-serial : goal.returns-clause-serial
returns-clause-serial _ c traces turns rate r job planned is long =
    serial_replay_ends c traces turns rate r job planned is long

pub returns-clause-single : goal.returns-clause-single
returns-clause-single _ c traces schedule turns rate r job planned one is long =
    single_replay_ends c one traces schedule turns rate r job planned is long
