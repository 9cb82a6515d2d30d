use Rattle.heap_structures.proofs.rings.NumberRings.{few_live}
use Rattle.heap_structures.proofs.records.few_blocks_live.Goals as goal

pub returns : goal.returns
returns c w g r ns others one is refer plain = few_live w g r ns others one is refer plain
