use Rattle.rt_mail.proofs.mail_runs.SaidByLogs.{speaks_on, grown}
use Rattle.rt_mail.proofs.mail_runs.mail_thread.MailThread.turn.Goals as goal

pub returns : goal.returns
returns g c =
    speaks_on c.args.mail_board.now c.args.self.now _ c.requires c.turn-answer.ensures.later
    c.tell.ensures.post c.tell.ensures.thread
    (grown c.tell.new.sender.sent c.args.self.now.sender.sent _ _ c.args.self.now.mutator.local.log
    c.turn-answer.new.who.local.log c.tell.ensures.sent c.log-told.ensures c.log.ensures)
