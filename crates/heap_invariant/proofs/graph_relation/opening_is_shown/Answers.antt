use Rattle.heap_invariant.proofs.graph_relation.OpeningWords.{opening_shows}
use Rattle.heap_invariant.proofs.graph_relation.opening_is_shown.Goals as goal

pub returns : goal.returns
returns c = λ k inside. opening_shows k inside
