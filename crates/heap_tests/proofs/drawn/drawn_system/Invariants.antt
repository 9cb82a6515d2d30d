use Rattle.std.proofs.Common.{◌≡◌, length, All}
use Rattle.never_heap.specs.Jobs.{IsTraceInBounds}
use Rattle.heap_tests.proofs.drawn.drawn_system.Given as goal

abbrev pub invariant-loop-thread : goal.invariant-loop-thread
invariant-loop-thread l = (length l.traces.items ≡ l._thread) × All (λ v. IsTraceInBounds l.c v.items) l.traces.items
