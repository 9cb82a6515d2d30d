use Rattle.std.proofs.Common.{arith, ◌+◌}
use Rattle.never_heap.specs.declared.Entry.{Entry}
use Rattle.never_heap.specs.declared.Command.TheVariants as commands
use Rattle.never_heap.specs.declared.Reply.TheVariants as replies
use Rattle.heap_system.proofs.accounting.OwedAndPaid.{works_take, works_at}
use Rattle.heap_system.proofs.counting.sum_of_works.Goals as goal

-- what represents no entry
abbrev none : Entry
none = record { thread = 0; command = commands.New 0 0; reply = replies.New (record { thread = 0; serial = 0 }); work = 0 }

pub overflow_add-sum : goal.overflow_add-sum
overflow_add-sum c = omega (arith, works_at c.args.entries.now c.loop-entry.entry-index none c.loop-entry-test.true, works_take c.args.entries.now (c.loop-entry.entry-index + 1), c.loop-entry.invariant.0, c.requires)

pub loop-entry-preserved : goal.loop-entry-preserved
loop-entry-preserved c = (omega (arith, works_at c.args.entries.now c.loop-entry.entry-index none c.loop-entry-test.true, c.loop-entry.invariant.0), omega arith)
