use Rattle.heap_structures.specs.Circles.{last_of}
use Rattle.heap_structures.specs.Heaps.{Always}
use Rattle.heap_structures.specs.Trends.{values_in}
use Rattle.heap_structures.proofs.trends.TrendCalls.{gets}
use Rattle.heap_structures.proofs.trend.Trend.get.Goals as goal

pub returns : goal.returns
returns c k n most xs is =
    gets c.args.self.now k n most xs is c.get.new.heap c.args.i c.get.result
    (c.get.ensures Always is.lays.graph (values_in (last_of n xs)) is.lays.has is.lays.laid.readings)
