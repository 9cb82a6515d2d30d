use Rattle.live_tables.proofs.rows.Asked.{IsAt}
use Rattle.live_tables.proofs.rows.heap.RowHeap.run.Given as goal

abbrev pub invariant-loop-command : goal.invariant-loop-command
invariant-loop-command g l =
    IsAt l.fn.who l.commands l.command-index (l.first, l.before, l.last) l.who
