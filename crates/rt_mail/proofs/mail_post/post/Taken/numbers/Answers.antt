use Rattle.std.proofs.Common.{[], slice_index_or, subst, length, ◌<◌}
use Rattle.rt_mail.specs.mail_post.PostStates.{TakenState, Begins}
use Rattle.rt_mail.proofs.mail_post.post.Taken.numbers.Goals as goal

pub returns-clause-front : goal.returns-clause-front
returns-clause-front c = subst (λ (d : TakenState). c.args.t < length d.taken
    → Begins (slice_index_or d.taken c.args.t [])
    (slice_index_or d.sent c.args.t [])) c.self.view_is
    (c.self.invariant.begins c.args.t) c.requires
