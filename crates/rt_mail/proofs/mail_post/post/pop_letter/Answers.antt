use Rattle.rt_mail.proofs.mail_post.Moves.{takes_from, tells_from}
use Rattle.rt_mail.proofs.mail_post.post.pop_letter.Goals as goal

pub pop_as-requires-clause-rule : goal.pop_as-requires-clause-rule
pop_as-requires-clause-rule g c = (takes_from _ _ c.requires.takes, tells_from _ _ c.requires.takes)
