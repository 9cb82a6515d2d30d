use Rattle.std.proofs.Common.{◌≡◌, ◌≤◌, false, map, take, length, replicate}
use Rattle.never_heap.specs.Graphs.{Mutator}
use Rattle.never_heap.proofs.graph.Graph.clear_marks.Given as goal

abbrev pub invariant-loop-thread : goal.invariant-loop-thread
invariant-loop-thread l = record {
  rows : take l.thread l.marks.rows ≡ map (λ (m : Mutator). replicate (length m.objects) false)
      (take l.thread l.mutators);
  some : l.thread ≤ length l.marks.rows;
  few : length l.marks.rows ≤ length l.mutators;
  shared : l.marks.shared ≡ false;
}
