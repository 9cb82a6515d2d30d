use Rattle.std.proofs.Common.{◌≡◌, ◌≤◌, ◌++◌, [], length, map}
use Rattle.std.specs.Vec.{vec_capacity}
use Rattle.std.specs.Vec.Iter.{into_iter_items, into_iter_len}
use Rattle.shared_heap.specs.Shared.{first_held}
use Rattle.shared_heap.specs.Workers.{start_worker}
use Rattle.shared_heap.proofs.heap.dealt.Given as goal

abbrev pub invariant-loop-local : goal.invariant-loop-local
invariant-loop-local l =
    (l.yielded ++ into_iter_items l.local-iterator ≡ l.fn.locals.items)
    × (into_iter_len l.local-iterator ≡ length (into_iter_items l.local-iterator))
    × (l.seat.table_id ≡ l.shared.table_id)
    × (l.seat.me ≡ (record { threads = map first_held (into_iter_items l.local-iterator); notes = [] }, []))
    × (l.workers.items ≡ map (start_worker l.shared.table_id) l.yielded)
    × (length l.fn.locals.items ≤ vec_capacity l.workers)
    × ((goal.iterator-loop-local).can_next l.local-iterator) × ((goal.iterator-loop-local).is_finite l.local-iterator)
