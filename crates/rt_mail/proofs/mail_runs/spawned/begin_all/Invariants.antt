-- Those that were spawned, and those that are left.
use Rattle.std.proofs.Common.{◌≡◌, ◌+◌, length}
use Rattle.std.specs.Vec.Iter.{into_iter_items, into_iter_len}
use Rattle.rt_mail.specs.mail_runs.MailThreads.{Each, IsMailThread}
use Rattle.rt_mail.specs.mail_runs.Spawned.{IsSpawned}
use Rattle.rt_mail.proofs.mail_runs.spawned.begin_all.Given as goal

abbrev pub invariant-loop-who : goal.invariant-loop-who
invariant-loop-who g l =
    Each (IsSpawned l.mail_board) 0 l.spawned.items
    × Each (IsMailThread l.mail_board) (length l.spawned.items) (into_iter_items l.who-iterator)
    × (length l.spawned.items + length (into_iter_items l.who-iterator) ≡ length l.fn.mail_threads.items)
    × (into_iter_len l.who-iterator ≡ length (into_iter_items l.who-iterator))
    × ((goal.iterator-loop-who g).can_next l.who-iterator)
    × ((goal.iterator-loop-who g).is_finite l.who-iterator)
