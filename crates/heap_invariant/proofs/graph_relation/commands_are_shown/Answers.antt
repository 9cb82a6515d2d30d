use Rattle.heap_invariant.specs.graph_relation.GraphOfWords.{named}
use Rattle.heap_invariant.proofs.graph_relation.CommandEvents.{opening_follows, run_follows}
use Rattle.heap_invariant.proofs.graph_relation.commands_are_shown.Goals as goal

pub returns : goal.returns
returns c = record {
  opening = λ k inside. opening_follows k inside;
  run = λ W n m kept at s es k guarded. run_follows W n m (named kept) at es s guarded k;
}
