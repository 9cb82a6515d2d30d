use Rattle.heap_invariant.specs.graph_relation.GraphOfWords.{named}
use Rattle.heap_invariant.proofs.graph_relation.Publish.{publish}
use Rattle.heap_invariant.proofs.graph_relation.Every.{every_new}
use Rattle.heap_invariant.proofs.graph_relation.new_objects_are_shown.Goals as goal

pub returns : goal.returns
returns c = record {
  published = λ s t f k block_of shows made.
      publish s.width s.threads s.last (named s.kept) s.graph s.at s.words s.pending shows
      t k f block_of made;
  referred = λ s t d f k block_of shows made small.
      every_new s.width s.threads s.last s.graph s.at s.words s.pending shows t d k f block_of made
      small;
}
