use Rattle.rt_mail.proofs.mail_post.Moves.{forks_from}
use Rattle.rt_mail.proofs.mail_post.post.next_end.Goals as goal

pub another-requires-clause-rule : goal.another-requires-clause-rule
another-requires-clause-rule c = forks_from _ _ _ c.requires.first
