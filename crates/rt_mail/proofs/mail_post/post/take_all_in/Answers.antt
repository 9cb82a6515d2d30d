use Rattle.std.proofs.Common.{sym, subst, ap, ◌∙◌, List, ◌++◌}
use Rattle.rt_mail.specs.mail_post.PostStates.{SenderState, OfPost}
use Rattle.rt_mail.proofs.mail_post.EndFacts.{of_post}
use Rattle.rt_mail.proofs.mail_post.post.take_all_in.Goals as goal

pub take_in-requires-clause-line : goal.take_in-requires-clause-line
take_in-requires-clause-line c = (
  c.loop-sender.invariant.2,
  of_post c.args.pass.now.table_id c.loop-sender.yielded c.in-Some.sender _
      (subst (OfPost c.args.pass.now.table_id) (sym c.loop-sender.invariant.0
      ∙ ap (λ (r : List SenderState). c.loop-sender.yielded ++ r) c.in-Some.ensures.steps.0)
      c.requires.line.1)
      ∙ sym c.loop-sender.invariant.3.0,
)
