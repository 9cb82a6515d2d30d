use Rattle.std.proofs.Common.{◌≡◌, ◌≤◌, ◌+◌, ◌*◌, vec_len}
use Rattle.never_heap.specs.Reach.{names_below}
use Rattle.never_heap.proofs.graph.Graph.list_names.Given as goal

abbrev pub invariant-loop-thread : goal.invariant-loop-thread
invariant-loop-thread l =
    (l.list.items ≡ names_below l.self.graph l.thread) × (vec_len l.list ≤ 1 + 131072 * l.thread)
