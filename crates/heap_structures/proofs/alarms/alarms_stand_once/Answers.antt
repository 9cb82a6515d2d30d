use Rattle.heap_structures.proofs.alarm_lists.AlarmLists.{gone, once_acknowledged, once_cleared, once_raised}
use Rattle.heap_structures.proofs.alarms.alarms_stand_once.Goals as goal

pub returns : goal.returns
returns _ n xs once = (
  once_raised n xs once,
  once_acknowledged n xs once,
  once_cleared n xs once,
  gone n xs once,
)
