use Rattle.rt_mail.specs.mail_runs.MailThreads.{IsMailThread}
use Rattle.rt_mail.proofs.mail_runs.mail_thread.MailThread.send_all.Given as goal

abbrev pub invariant-loop : goal.invariant-loop
invariant-loop g l =
    IsMailThread l.mail_board l.fn.self.mutator.local.thread l.who
    × (goal.iterator-loop g).can_next l.iterator' × (goal.iterator-loop g).is_finite l.iterator'
