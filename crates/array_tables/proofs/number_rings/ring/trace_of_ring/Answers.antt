use Rattle.std.proofs.Common.{length, rules}
use Rattle.array_tables.specs.number_rings.Rings.{script_of}
use Rattle.array_tables.proofs.number_rings.TracesSoFar.{commands_of, recall_more}
use Rattle.array_tables.proofs.number_rings.ring.trace_of_ring.Goals as goal

pub loop-j-2-preserved : goal.loop-j-2-preserved
loop-j-2-preserved c =
    recall_more c.args.thread c.loop-j-2.j (length c.args.numbers.now) c.loop-j-2.trace.items
    c.recall.new.trace.items (commands_of (script_of c.args.thread c.args.numbers.now))
    c.loop-j-2-test.true (search rules) c.loop-j-2.invariant
