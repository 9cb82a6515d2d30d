use Rattle.std.proofs.Common.{sym, ap, ◌∙◌}
use Rattle.rt_mail.specs.declared.mail_post.views.View.{View}
use Rattle.rt_mail.specs.declared.mail_post.views.View.TheVariants.{Sending}
use Rattle.rt_mail.specs.mail_post.Rule.{sent_in}
use Rattle.rt_mail.proofs.mail_post.Moves.{sends_from}
use Rattle.rt_mail.proofs.mail_post.post.push_letter.Goals as goal

pub push_as-requires-clause-rule : goal.push_as-requires-clause-rule
push_as-requires-clause-rule g c = (
  sends_from _ _ _ _ (c.loop.invariant.2 ∙ c.requires.sends
      ∙ ap (λ (v : View). Sending c.args.letter.thread (sent_in v))
      (sym c.loop.invariant.2)),
  λ items views h at. tt,
)
