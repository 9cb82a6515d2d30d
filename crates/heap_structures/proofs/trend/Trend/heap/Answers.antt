use Rattle.heap_structures.proofs.trend.Trend.heap.Goals as goal

pub returns-clause-full : goal.returns-clause-full
returns-clause-full c k n most xs is =
    c.shown_heaps_met_no_full.ensures c.args.self.now.heap is.lays.graph is.lays.has
