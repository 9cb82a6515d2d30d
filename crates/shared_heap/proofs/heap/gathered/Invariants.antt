use Rattle.std.proofs.Common.{◌≡◌, ◌++◌, ◌∷◌, length}
use Rattle.std.specs.Vec.Iter.{into_iter_items, into_iter_len}
use Rattle.shared_heap.specs.Workers.{KnowsAll}
use Rattle.shared_heap.proofs.heap.gathered.Given as goal

abbrev pub invariant-loop-worker : goal.invariant-loop-worker
invariant-loop-worker l =
    (l.yielded ++ into_iter_items l.worker-iterator ≡ l.fn.rest.items)
    × (into_iter_len l.worker-iterator ≡ length (into_iter_items l.worker-iterator))
    × (l.seat.table_id ≡ l.shared.table_id)
    × KnowsAll l.seat.me (l.fn.first ∷ l.yielded)
    × ((goal.iterator-loop-worker).can_next l.worker-iterator) × ((goal.iterator-loop-worker).is_finite l.worker-iterator)
