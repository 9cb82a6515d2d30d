use Rattle.std.proofs.Common.{◌≡◌, replicate}
use Rattle.never_heap.specs.Graphs.{start_mutator}
use Rattle.never_heap.proofs.graph.Graph.start.Given as goal

abbrev pub invariant-loop-thread : goal.invariant-loop-thread
invariant-loop-thread l = l.mutators.items ≡ replicate l._thread (start_mutator l.c.threads)
