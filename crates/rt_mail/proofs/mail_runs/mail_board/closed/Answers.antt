use Rattle.std.proofs.Common.{ap, ◌∙◌}
use Rattle.atom_board.proofs.MutatorsInOrder.{in_order_each}
use Rattle.rt_mail.proofs.mail_runs.MailThreadsDone.{logs_say, logs_count, held}
use Rattle.rt_mail.proofs.mail_runs.mail_board.closed.Goals as goal

pub close-requires-clause-mutators : goal.close-requires-clause-mutators
close-requires-clause-mutators c =
    in_order_each c.args.mail_board.board c.args.mutators.items c.requires.mutators

pub returns-clause-taken : goal.returns-clause-taken
returns-clause-taken c =
    c.close-2.ensures.taken ∙ c.requires.taken
    ∙ logs_say c.args.mail_board.board c.args.mutators.items c.close.result.logs c.requires.mutators
    c.close.ensures.logs (logs_count _ _ _ _ c.close.ensures.finished)

pub returns-clause-sent : goal.returns-clause-sent
returns-clause-sent c =
    ap held (c.close-2.ensures.sent ∙ c.requires.sent)
    ∙ logs_say c.args.mail_board.board c.args.mutators.items c.close.result.logs c.requires.mutators
    c.close.ensures.logs (logs_count _ _ _ _ c.close.ensures.finished)
