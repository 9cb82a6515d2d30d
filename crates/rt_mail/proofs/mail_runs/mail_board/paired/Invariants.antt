-- The pairs that were made, with those of what is left, are all.
use Rattle.std.proofs.Common.{◌≡◌, ◌++◌, length}
use Rattle.std.specs.Vec.Iter.{into_iter_items, into_iter_len}
use Rattle.rt_mail.specs.mail_runs.MailThreads.{zipped}
use Rattle.rt_mail.proofs.mail_runs.mail_board.paired.Given as goal

abbrev pub invariant-loop-mutator : goal.invariant-loop-mutator
invariant-loop-mutator l =
    (l.mail_threads.items ++ zipped (into_iter_items l.mutator-iterator) l.senders.items
    ≡ zipped l.fn.mutators.items l.fn.senders.items)
    × (length l.senders.items ≡ length (into_iter_items l.mutator-iterator))
    × (into_iter_len l.mutator-iterator ≡ length (into_iter_items l.mutator-iterator))
    × ((goal.iterator-loop-mutator).can_next l.mutator-iterator)
    × ((goal.iterator-loop-mutator).is_finite l.mutator-iterator)
