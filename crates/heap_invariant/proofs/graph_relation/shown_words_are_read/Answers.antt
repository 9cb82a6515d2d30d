use Rattle.heap_invariant.specs.graph_relation.GraphOfWords.{named}
use Rattle.heap_invariant.proofs.graph_relation.WordReads.{owner_read, length_read, value_read, one_value, register_read, walk_ends, blocks_apart}
use Rattle.heap_invariant.proofs.graph_relation.shown_words_are_read.Goals as goal

pub returns : goal.returns
returns c = record {
  owner = λ s a o shows is.
      owner_read s.width s.threads s.last (named s.kept) s.graph s.at s.words s.pending shows a o
      is.kept is.ordinal;
  length = λ s a o shows is.
      length_read s.width s.threads s.last (named s.kept) s.graph s.at s.words s.pending shows a o
      is.kept is.ordinal;
  value = λ s v shows few value.
      value_read s.width s.threads s.last (named s.kept) s.graph s.at s.words s.pending shows v few
      value;
  one_value = λ s v u shows kv ku e.
      one_value s.width s.threads s.last
      (named s.kept) s.graph s.at s.words s.pending shows v u kv ku e;
  register = λ s t r shows there now.
      register_read s.width s.threads s.last (named s.kept) s.graph s.at s.words s.pending shows t r
      there.0 there.1 now;
  field = λ s a i steps last way turn walked shows ka within is starts goes.
      walk_ends s.width s.threads s.last (named s.kept) s.graph s.at s.words s.pending shows a i ka
      within steps last way turn is walked starts goes;
  apart = λ s a b o p shows is other e.
      blocks_apart s.width s.threads s.last (named s.kept) s.graph s.at s.words s.pending shows a b
      o p
      is.kept other.kept is.ordinal other.ordinal e;
}
