use Rattle.heap_invariant.proofs.name_invariant.ReachedBlocks.{marked_is}
use Rattle.heap_invariant.proofs.name_invariant.marked_blocks_were_reached_or_made.Goals as goal

pub returns : goal.returns
returns c = λ k s x kept dark. marked_is k s kept x dark
