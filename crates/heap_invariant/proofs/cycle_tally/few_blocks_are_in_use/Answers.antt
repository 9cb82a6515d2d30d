use Rattle.heap_invariant.proofs.cycle_tally.InUse.{few_in_use}
use Rattle.heap_invariant.proofs.cycle_tally.KeptStart.{few_at_start}
use Rattle.heap_invariant.proofs.cycle_tally.few_blocks_are_in_use.Goals as goal

pub returns-clause-covered : goal.returns-clause-covered
returns-clause-covered g = few_in_use

pub returns-clause-start : goal.returns-clause-start
returns-clause-start g c s count k may threads e = few_at_start c s k may count threads e
