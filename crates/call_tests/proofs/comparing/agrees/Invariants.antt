use Rattle.std.proofs.Common.{◌≡◌, ◌≤◌, length}
use Rattle.never_heap.specs.Graphs.{count_of}
use Rattle.call_tests.proofs.comparing.agrees.Given as goal

abbrev pub invariant-loop-k : goal.invariant-loop-k
invariant-loop-k g l = (length l.graph.graph.mutators ≡ 1)
    × (count_of l.graph.graph 0 ≤ l.k-counter)
