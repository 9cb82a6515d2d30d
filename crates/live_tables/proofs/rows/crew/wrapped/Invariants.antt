use Rattle.std.proofs.Common.{◌≡◌, ◌++◌, length, map}
use Rattle.std.specs.List.{AllByRecursion}
use Rattle.std.specs.Vec.Iter.{into_iter_items, into_iter_len}
use Rattle.live_tables.proofs.rows.crew.wrapped.Given as goal

abbrev pub invariant-loop-worker : goal.invariant-loop-worker
invariant-loop-worker g l =
    (l.yielded ++ into_iter_items l.worker-iterator ≡ l.fn.workers.items)
    × (into_iter_len l.worker-iterator ≡ length (into_iter_items l.worker-iterator))
    × AllByRecursion g.W.RowThread.IsNew (into_iter_items l.worker-iterator)
    × (l.crew.items ≡ map g.W.RowThread.of l.yielded)
    × ((goal.iterator-loop-worker g).can_next l.worker-iterator)
    × ((goal.iterator-loop-worker g).is_finite l.worker-iterator)
