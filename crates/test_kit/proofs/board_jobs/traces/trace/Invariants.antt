use Rattle.std.proofs.Common.{◌≤◌, length, All}
use Rattle.never_heap.specs.Bounds.{IsCommandInBounds}
use Rattle.test_kit.proofs.board_jobs.traces.trace.Given as goal

abbrev pub invariant-loop-number : goal.invariant-loop-number
invariant-loop-number g l =
    (length l.trace.items ≤ l.number) × All (IsCommandInBounds l.c) l.trace.items
