use Rattle.std.proofs.Common.{◌≤◌, length, All}
use Rattle.never_heap.specs.Bounds.{IsCommandInBounds}
use Rattle.heap_tests.proofs.drawn.drawn_trace.Given as goal

abbrev pub invariant-loop-place : goal.invariant-loop-place
invariant-loop-place l = (length l.trace.items ≤ 131072) × All (IsCommandInBounds l.c) l.trace.items
