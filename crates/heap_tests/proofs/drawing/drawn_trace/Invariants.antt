-- The commands so far are few, and in bounds.
use Rattle.std.proofs.Common.{◌≤◌, length, All}
use Rattle.never_heap.specs.Bounds.{IsCommandInBounds}
use Rattle.heap_tests.proofs.drawing.drawn_trace.Given as goal

abbrev pub invariant-loop-command : goal.invariant-loop-command
invariant-loop-command l = record {
  few : length l.trace.items ≤ l._command;
  fit : All (IsCommandInBounds l.c) l.trace.items;
}
