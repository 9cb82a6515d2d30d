use Rattle.heap_invariant.proofs.name_invariant.ReachedBlocks.{flipped_black, reached_black, dark_refers, started_black}
use Rattle.heap_invariant.proofs.name_invariant.sweeping_spares_what_is_reached.Goals as goal

pub returns : goal.returns
returns c = record {
  flip = λ k s x kept guard is. flipped_black k s kept x guard is;
  reached = λ k s x kept sweep is. reached_black k s kept sweep x is;
  grey = λ k s x kept sweep is. (kept.sweeping sweep).greys x is;
  refers = λ k s x j kept sweep dark jl. dark_refers k s kept sweep x j dark jl;
  start = λ k s x kept guard solid. started_black k s kept x guard solid;
}
