use Rattle.std.proofs.Common.{◌≡◌, ◌≤◌, ◌++◌, length, map}
use Rattle.std.specs.List.{AllByRecursion}
use Rattle.std.specs.Vec.{vec_capacity}
use Rattle.std.specs.Vec.Iter.{into_iter_items, into_iter_len}
use Rattle.live_tables.proofs.rows.crew.unwrapped.Given as goal

abbrev pub invariant-loop-who : goal.invariant-loop-who
invariant-loop-who g l =
    (l.yielded ++ into_iter_items l.who-iterator ≡ l.fn.crew.items)
    × (into_iter_len l.who-iterator ≡ length (into_iter_items l.who-iterator))
    × AllByRecursion g.W.RowThread.IsKept l.workers.items
    × (map g.W.RowThread.of l.workers.items ≡ l.yielded)
    × (16 ≤ vec_capacity l.workers)
    × ((goal.iterator-loop-who g).can_next l.who-iterator)
    × ((goal.iterator-loop-who g).is_finite l.who-iterator)
