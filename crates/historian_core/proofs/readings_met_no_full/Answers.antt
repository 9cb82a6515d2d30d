use Rattle.historian_core.proofs.readings_met_no_full.Goals as goal

pub returns : goal.returns
returns c h l xs k = c.shown_heaps_met_no_full.ensures h.trend.heap k.lays.graph k.lays.has
