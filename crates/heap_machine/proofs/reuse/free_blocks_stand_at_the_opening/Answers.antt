use Rattle.heap_machine.proofs.OpeningFreeList.{free_opens}
use Rattle.heap_machine.proofs.reuse.free_blocks_stand_at_the_opening.Goals as goal

pub returns : goal.returns
returns c = free_opens
