use Rattle.heap_invariant.proofs.name_invariant.KeptStates.{shown}
use Rattle.heap_invariant.proofs.name_invariant.FlipAndStart.{reached_kept}
use Rattle.heap_invariant.proofs.name_invariant.ReachedBlocks.{reached_solid, reached_not_held}
use Rattle.heap_invariant.proofs.name_invariant.words_show_what_is_reached.Goals as goal

pub returns : goal.returns
returns c = record {
  legal = λ k s kept. kept.ordered.legal;
  graph = λ k s kept. kept.ordered.replayed;
  reached = λ k s a kept is. reached_kept k s kept a is;
  words = λ k s kept. shown k s kept;
  older = λ k s t r kept there small pending. kept.older t r there small pending;
  solid = λ k s x kept is. reached_solid k s kept x is;
  not_held = λ k s x t b kept is there builds. reached_not_held k s kept x t b is there builds;
}
