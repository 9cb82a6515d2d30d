-- Those that have ended.
use Rattle.std.proofs.Common.{◌≡◌, ◌++◌, length}
use Rattle.std.specs.Vec.Iter.{into_iter_items, into_iter_len}
use Rattle.rt_mail.specs.mail_runs.Spawned.{AllGive}
use Rattle.rt_mail.proofs.mail_runs.spawned.finish_all.Given as goal

abbrev pub invariant-loop-one : goal.invariant-loop-one
invariant-loop-one g l =
    (l.yielded ++ into_iter_items l.one-iterator ≡ l.fn.spawned.items)
    × (into_iter_len l.one-iterator ≡ length (into_iter_items l.one-iterator))
    × AllGive l.yielded l.mail_threads.items
    × ((goal.iterator-loop-one g).can_next l.one-iterator)
    × ((goal.iterator-loop-one g).is_finite l.one-iterator)
