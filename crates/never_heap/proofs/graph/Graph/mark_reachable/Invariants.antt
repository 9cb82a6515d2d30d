use Rattle.never_heap.proofs.Rounds.{MarksRound}
use Rattle.never_heap.proofs.graph.Graph.mark_reachable.Given as goal

abbrev pub invariant-loop-round : goal.invariant-loop-round
invariant-loop-round l = MarksRound l.self.graph l.marks l._round
