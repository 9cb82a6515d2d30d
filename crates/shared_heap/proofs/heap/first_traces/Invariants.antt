use Rattle.std.proofs.Common.{◌≡◌, length, map}
use Rattle.shared_heap.specs.Workers.{AreOnes}
use Rattle.shared_heap.proofs.heap.first_traces.Given as goal

abbrev pub invariant-loop-thread : goal.invariant-loop-thread
invariant-loop-thread l = (length (map (λ x. x.items) l.traces.items) ≡ l._thread) × AreOnes (map (λ x. x.items) l.traces.items)
