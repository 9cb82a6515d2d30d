use Rattle.shared_heap.proofs.Endings.{closes, some_in_order}
use Rattle.shared_heap.proofs.heap.SharedHeap.close_in_order.Goals as goal

pub closed_with-requires : goal.closed_with-requires
closed_with-requires c = some_in_order c.args.self c.args.who.items c.requires.some c.requires.order

pub returns : goal.returns
returns c = closes c.args.self c.args.who.items c.closed_with.result c.closed_with.ensures c.requires.order
