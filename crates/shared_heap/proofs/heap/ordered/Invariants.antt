use Rattle.std.proofs.Common.{◌≤◌}
use Rattle.shared_heap.proofs.WorkersInOrder.{IsSorted}
use Rattle.shared_heap.proofs.heap.ordered.Given as goal

abbrev pub invariant-loop-t : goal.invariant-loop-t
invariant-loop-t l = (l.t ≤ l.threads) × IsSorted l.t l.threads l.workers.items l.fn.who.items
