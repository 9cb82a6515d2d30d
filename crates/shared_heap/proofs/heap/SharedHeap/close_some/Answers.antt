use Rattle.shared_heap.proofs.SomeWorkers.{closes_some}
use Rattle.shared_heap.proofs.heap.SharedHeap.close_some.Goals as goal

pub returns : goal.returns
returns c = closes_some c.args.self.config c.args.who.items c.closed_with.result c.closed_with.ensures
