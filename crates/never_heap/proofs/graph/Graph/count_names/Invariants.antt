use Rattle.std.proofs.Common.{◌≡◌, ◌≤◌, ◌+◌, ◌*◌, length}
use Rattle.never_heap.specs.Reach.{names_below}
use Rattle.never_heap.proofs.graph.Graph.count_names.Given as goal

abbrev pub invariant-loop-mutator : goal.invariant-loop-mutator
invariant-loop-mutator l =
    (l.count ≡ length (names_below l.self.graph l.mutator-index))
    × (l.count ≤ 1 + 131072 * l.mutator-index)
