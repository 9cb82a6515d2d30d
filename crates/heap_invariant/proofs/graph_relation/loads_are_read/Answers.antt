use Rattle.heap_invariant.specs.graph_relation.GraphOfWords.{named}
use Rattle.heap_invariant.proofs.graph_relation.Loads.{value_shown, compared, name_shown, length_shown}
use Rattle.heap_invariant.proofs.graph_relation.loads_are_read.Goals as goal

pub returns : goal.returns
returns c = record {
  value = λ W n m t kept at s v k tn few is. value_shown W n m (named kept) at s k t tn v few is;
  compared = λ W n m t kept at s a i j k tn q has.
      compared W n m (named kept) at s k t tn a i j q has;
  name = λ W n m t kept at s v a k tn is refers.
      name_shown W n m (named kept) at s k t tn v a is refers;
  length = λ W t at g l f a is read refers. length_shown W t at g l f a is read refers;
}
