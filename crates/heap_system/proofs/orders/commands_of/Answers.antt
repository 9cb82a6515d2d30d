use Rattle.std.proofs.Common.{◌≡◌, ◌+◌, ◌∙◌, List, length, arith, Vec, Global}
use Rattle.never_heap.specs.declared.Command.{Command}
use Rattle.heap_system.proofs.history.OrderKept.{commands_at, commands_low}
use Rattle.heap_system.proofs.orders.commands_of.Goals as goal

abbrev items_of : Vec Command Global → List Command
items_of v = v.items

-- the commands of one trace
long : (c : goal.After-len-sum) → c.len-sum.result ≡ length c.trace-item.result.items
long c = c.len-sum.ensures ∙ omega (arith, c.trace-item.result.ok.0)

pub overflow_add-sum : goal.overflow_add-sum
overflow_add-sum c = omega (arith, c.requires, c.loop-trace.invariant.0, long c, commands_at items_of c.args.traces.now c.loop-trace.trace-index c.trace-item.result c.loop-trace-test.true c.trace-item.is, commands_low items_of c.args.traces.now (c.loop-trace.trace-index + 1))

pub loop-trace-preserved : goal.loop-trace-preserved
loop-trace-preserved c = (
  omega (arith, c.loop-trace.invariant.0, long c, commands_at items_of c.args.traces.now c.loop-trace.trace-index c.trace-item.result c.loop-trace-test.true c.trace-item.is),
  omega (arith, c.loop-trace-test.true),
)
