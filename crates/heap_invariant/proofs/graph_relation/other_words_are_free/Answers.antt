use Rattle.heap_invariant.specs.graph_relation.GraphOfWords.{named}
use Rattle.heap_invariant.proofs.graph_relation.Stores.{words_change, later_last, fewer_names}
use Rattle.heap_invariant.proofs.graph_relation.Every.{words_behind}
use Rattle.heap_invariant.proofs.graph_relation.other_words_are_free.Goals as goal

pub returns : goal.returns
returns c = record {
  words = λ s u shows registers objects.
      words_change s.width s.threads s.last (named s.kept) s.graph s.at s.words s.pending shows u
      registers (λ a o ka ol. objects a o (record { kept = ka; ordinal = ol }));
  behind = λ s l u shows room more same.
      later_last s.width s.threads s.last (named s.kept) s.graph s.at u s.pending
      (words_behind s.width s.threads s.last (named s.kept) s.graph s.at s.words s.pending shows u
      room
      same) l more;
  fewer = λ s fewer shows down closed none.
      fewer_names s.width s.threads s.last (named s.kept) s.graph s.at s.words s.pending shows
      (named fewer) down closed (λ t r tn rl. none t r (tn, rl));
}
