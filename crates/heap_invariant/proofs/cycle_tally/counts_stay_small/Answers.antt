use Rattle.heap_invariant.proofs.cycle_tally.CountBounds.{counts_small}
use Rattle.heap_invariant.proofs.cycle_tally.counts_stay_small.Goals as goal

pub returns : goal.returns
returns g = counts_small
