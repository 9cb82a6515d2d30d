-- The commands so far are few, and in bounds.
use Rattle.std.proofs.Common.{◌≤◌, length, All}
use Rattle.never_heap.specs.Bounds.{IsCommandInBounds}
use Rattle.heap_tests.proofs.drawing.chain.Given as goal

abbrev pub invariant-loop-place : goal.invariant-loop-place
invariant-loop-place l = record {
  few : length l.trace.items ≤ l.place;
  fit : All (IsCommandInBounds l.c) l.trace.items;
}
