use Rattle.heap_structures.proofs.trend.Trend.pushed.Goals as goal

pub returns : goal.returns
returns c k n most xs is = is.pushed
