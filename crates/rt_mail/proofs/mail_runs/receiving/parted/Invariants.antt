-- The mutators and senders so far.
use Rattle.std.proofs.Common.{◌≡◌, ◌++◌, length, map}
use Rattle.std.specs.Vec.Iter.{into_iter_items, into_iter_len}
use Rattle.rt_mail.specs.mail_runs.MailThreads.{mutator_of, sender_of}
use Rattle.rt_mail.proofs.mail_runs.receiving.parted.Given as goal

abbrev pub invariant-loop-who : goal.invariant-loop-who
invariant-loop-who l =
    (l.mutators.items ++ map mutator_of (into_iter_items l.who-iterator)
    ≡ map mutator_of l.fn.mail_threads.items)
    × (l.senders.items ++ map sender_of (into_iter_items l.who-iterator)
    ≡ map sender_of l.fn.mail_threads.items)
    × (into_iter_len l.who-iterator ≡ length (into_iter_items l.who-iterator))
    × ((goal.iterator-loop-who).can_next l.who-iterator)
    × ((goal.iterator-loop-who).is_finite l.who-iterator)
