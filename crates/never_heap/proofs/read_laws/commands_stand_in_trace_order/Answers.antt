use Rattle.never_heap.proofs.TraceOrder.{stands_in_trace}
use Rattle.never_heap.proofs.read_laws.commands_stand_in_trace_order.Goals as goal

pub returns : goal.returns
returns c = stands_in_trace
