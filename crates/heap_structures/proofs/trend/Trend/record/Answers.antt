use Rattle.heap_structures.specs.Heaps.{Always}
use Rattle.heap_structures.proofs.trends.TrendHeaps.{recorded}
use Rattle.heap_structures.proofs.trend.Trend.record.Goals as goal

pub returns-clause-lays : goal.returns-clause-lays
returns-clause-lays c = λ s room.
    recorded c.args.self.now s c.args.value room c.push.new.heap c.push.new.self
    c.push.ensures.same c.push.result c.push.ensures.left
    (c.push.ensures.shows Always s.lays.graph s.ys s.lays.has s.lays.laid.readings)
