use Rattle.std.proofs.Common.{◌≡◌, ◌++◌, map}
use Rattle.std.specs.Vec.Iter.{into_iter_items, into_iter_len}
use Rattle.std.proofs.Common.{length}
use Rattle.crossbeam_queue.specs.Passes.{view, IsPassOf, IsSamePass}
use Rattle.rt_mail.specs.declared.mail_post.views.View.TheVariants.{Taking}
use Rattle.rt_mail.specs.mail_post.Rule.{letters_in, senders_in, gathered_in}
use Rattle.rt_mail.specs.mail_post.PostStates.{whole_of}
use Rattle.rt_mail.proofs.mail_post.post.take_all_in.Given as goal

abbrev pub invariant-loop-sender : goal.invariant-loop-sender
invariant-loop-sender l = (l.yielded ++ into_iter_items l.sender-iterator ≡ l.fn.senders.items)
    × (into_iter_len l.sender-iterator ≡ length (into_iter_items l.sender-iterator))
    × IsPassOf l.line l.pass × IsSamePass l.fn.pass l.pass
    × (view l.pass ≡ Taking (senders_in (view l.fn.pass)) (letters_in (view l.fn.pass))
    (gathered_in (view l.fn.pass) ++ map whole_of l.yielded))
    × ((goal.iterator-loop-sender).can_next l.sender-iterator)
    × ((goal.iterator-loop-sender).is_finite l.sender-iterator)
