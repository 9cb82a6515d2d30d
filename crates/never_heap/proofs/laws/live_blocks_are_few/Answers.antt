use Rattle.never_heap.proofs.LiveBlocksBound.{within}
use Rattle.never_heap.proofs.laws.live_blocks_are_few.Goals as goal

pub returns : goal.returns
returns c = within
