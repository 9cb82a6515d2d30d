use Rattle.heap_invariant.proofs.name_invariant.KeptStates.{build_of, title_of}
use Rattle.heap_invariant.proofs.name_invariant.ReachedBlocks.{coloured_refers, in_hand_refers}
use Rattle.heap_invariant.proofs.name_invariant.builds_are_written.Goals as goal

pub returns : goal.returns
returns c = record {
  build = λ k s t b kept there is. build_of k s kept t b there is;
  name = λ k s t b kept there is. title_of k s kept t b there is;
  coloured = λ k s t o j b kept there is lo hi jl.
      coloured_refers k s kept t o j b there is lo hi jl;
  in_hand = λ k s t o j kept guard jl. in_hand_refers k s kept t o j guard jl;
}
