use Rattle.array_tables.proofs.handle_table.AnswersSoFar.{all_commands}
use Rattle.array_tables.proofs.handle_table.operation.trace_of.Goals as goal

pub returns : goal.returns
returns c =
    all_commands c.args.thread c.loop-op.made c.loop-op.op-index c.args.ops.now
    c.loop-op.trace.items
    c.loop-op-test.false c.loop-op.invariant.commands
