use Rattle.rt_mail.proofs.mail_post.Moves.{tells_from}
use Rattle.rt_mail.proofs.mail_post.post.learn_fronts.Goals as goal

pub learn_as-requires-clause-rule : goal.learn_as-requires-clause-rule
learn_as-requires-clause-rule c = tells_from _ _ c.requires.takes
