use Rattle.never_heap.proofs.OpeningLiveBlocks.{opening_live}
use Rattle.never_heap.proofs.laws.opening_blocks_are_live.Goals as goal

pub returns : goal.returns
returns c = opening_live
