use Rattle.std.proofs.Common.{ap, arith}
use Rattle.shared_heap.specs.Workers.{HeapState}
use Rattle.shared_heap.proofs.WorkersInOrder.{ordered_each, ordered_history}
use Rattle.shared_heap.proofs.heap.SharedHeap.close.Goals as goal

pub close_in_order-requires : goal.close_in_order-requires
close_in_order-requires c = record {
  order = ordered_each c.args.self c.self.inside.config.threads c.args.who.items c.ordered-workers.result.items (ap (λ (h : HeapState). h.config.threads) c.self.view_is) c.requires c.ordered-workers.ensures.count c.ordered-workers.ensures.order c.ordered-workers.ensures.same;
  some = omega (arith, c.self.invariant.3, c.ordered-workers.ensures.count);
}

pub returns : goal.returns
returns c = ordered_history c.args.self.config c.args.who.items c.ordered-workers.result.items _ c.ordered-workers.ensures.same c.close_in_order.ensures
