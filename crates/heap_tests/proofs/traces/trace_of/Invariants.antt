use Rattle.std.proofs.Common.{◌≤◌, length, All}
use Rattle.never_heap.specs.Bounds.{IsCommandInBounds}
use Rattle.heap_tests.proofs.traces.trace_of.Given as goal

abbrev pub invariant-loop-command : goal.invariant-loop-command
invariant-loop-command l = (length l.trace.items ≤ 131072) × All (IsCommandInBounds l.c) l.trace.items

abbrev pub invariant-loop-round : goal.invariant-loop-round
invariant-loop-round l = (length l.trace.items ≤ 131072) × All (IsCommandInBounds l.c) l.trace.items

abbrev pub invariant-loop-times : goal.invariant-loop-times
invariant-loop-times l = (length l.trace.items ≤ 131072) × All (IsCommandInBounds l.c) l.trace.items
