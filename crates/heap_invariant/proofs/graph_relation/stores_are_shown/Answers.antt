use Rattle.heap_invariant.specs.graph_relation.GraphOfWords.{named}
use Rattle.heap_invariant.proofs.graph_relation.Stores.{register_store, register_pending, pending_store, field_store}
use Rattle.heap_invariant.proofs.graph_relation.stores_are_shown.Goals as goal

pub returns : goal.returns
returns c = record {
  register = λ s t r later v shows there value others.
      register_store s.width s.threads s.last (named s.kept) s.graph s.at s.words s.pending shows
      later
      t r there.0 there.1 v value others;
  pending = λ s t r later v shows there value is others.
      register_pending s.width s.threads s.last (named s.kept) s.graph s.at s.words s.pending shows
      later
      t r there.0 there.1 v value is others;
  caught_up = λ s t r later shows there others.
      pending_store s.width s.threads s.last (named s.kept) s.graph s.at s.words s.pending shows
      later
      t r there.0 there.1 others;
  field = λ s a i v shows ka within value.
      field_store s.width s.threads s.last (named s.kept) s.graph s.at s.words s.pending shows
      a i v ka within value;
}
