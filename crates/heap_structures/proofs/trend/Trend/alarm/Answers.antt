use Rattle.std.proofs.Common.{◌∙◌}
use Rattle.heap_structures.specs.Heaps.{Always}
use Rattle.heap_structures.proofs.cell_arrays.Chained.{from_err}
use Rattle.heap_structures.proofs.trends.TrendCalls.{reads, stopped}
use Rattle.heap_structures.proofs.trend.Trend.alarm.Goals as goal

pub returns-in_err-alarm : goal.returns-in_err-alarm
returns-in_err-alarm c k n most xs is =
    from_err c.from_residual.result c.in_err-alarm.field-0.0 _ _ c.from_residual.ensures.1
    (stopped c.args.self.now k n most xs is 1 c.get.new.heap c.in_err-alarm.field-0.0
    (c.in_err-alarm.ensures Always is.lays.graph _ is.lays.has is.lays.laid.alarms).0)

pub returns : goal.returns
returns c k n most xs is =
    let by = reads c.args.self.now k n most xs is c.get.new.heap c.in_ok-alarm.alarm c.args.i
    (c.in_ok-alarm.ensures Always is.lays.graph _ is.lays.has is.lays.laid.alarms) in
    (c.number_in.ensures ∙ by.0, by.1)
