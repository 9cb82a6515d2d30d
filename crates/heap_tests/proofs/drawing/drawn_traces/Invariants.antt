-- Each trace so far is in bounds.
use Rattle.std.proofs.Common.{◌≡◌, length, map, Vec, Global}
use Rattle.std.specs.List.{AllByRecursion}
use Rattle.never_heap.specs.declared.Command.{Command}
use Rattle.never_heap.specs.Jobs.{IsTraceInBounds}
use Rattle.heap_tests.proofs.drawing.drawn_traces.Given as goal

abbrev pub invariant-loop-thread : goal.invariant-loop-thread
invariant-loop-thread l = record {
  many : length l.traces.items ≡ l._thread;
  each : AllByRecursion (IsTraceInBounds l.c) (map (λ (v : Vec Command Global). v.items) l.traces.items);
}
