use Rattle.live_tables.proofs.rows.Asked.{at_next}
use Rattle.live_tables.proofs.rows.heap.RowHeap.run.Goals as goal

pub loop-command-preserved : goal.loop-command-preserved
loop-command-preserved g c =
    at_next c.args.who.now c.args.commands.now c.loop-command.command-index
    (c.loop-command.first, c.loop-command.before, c.loop-command.last) c.loop-command.who
    c.loop-command.invariant _ c.loop-command-test.true c.request-last.new.who c.request-last.result
    c.request-last.ensures.same c.request-last.ensures.answered c.request-last.ensures.made
