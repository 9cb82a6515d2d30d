use Rattle.rt_mail.proofs.mail_post.Moves.{merges_from}
use Rattle.rt_mail.proofs.mail_post.post.take_in.Goals as goal

pub absorb-requires-clause-rule : goal.absorb-requires-clause-rule
absorb-requires-clause-rule c = merges_from _ _ _ _ _ c.requires.takes c.sender.invariant.1
