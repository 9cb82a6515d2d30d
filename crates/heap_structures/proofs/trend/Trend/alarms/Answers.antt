use Rattle.std.proofs.Common.{◌∙◌, ◌-◌, length}
use Rattle.heap_structures.specs.Circles.{last_of}
use Rattle.heap_structures.proofs.trends.TrendLists.{alarms_counted}
use Rattle.heap_structures.proofs.trend.Trend.alarms.Goals as goal

pub returns : goal.returns
returns c k n most xs is =
    c.len.ensures is.lays.graph _ is.lays.laid.alarms
    ∙ alarms_counted (length xs - n) (last_of n xs)
