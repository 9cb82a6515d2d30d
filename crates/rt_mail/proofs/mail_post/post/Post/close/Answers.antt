use Rattle.std.proofs.Common.{sym, subst, IsSome, List, ℕ, length}
use Rattle.rt_mail.specs.declared.mail_post.views.View.{View}
use Rattle.rt_mail.specs.mail_post.Rule.{gathered_in}
use Rattle.rt_mail.specs.mail_post.NumberRows.{rows_of}
use Rattle.rt_mail.specs.mail_post.PostStates.{TakerState, IsTakenState, all_sent}
use Rattle.crossbeam_queue.specs.Passes.{view}
use Rattle.rt_mail.proofs.mail_post.EndFacts.{delivered}
use Rattle.rt_mail.proofs.mail_post.post.Post.close.Goals as goal

pub invariant_of-result : goal.invariant_of-result
invariant_of-result c =
    let rows : List (List ℕ) = rows_of c.who.inside.rows.items in
    let was : IsTakenState rows (all_sent (length rows) (gathered_in (view c.who.inside.pass))) =
    delivered rows (view c.who.inside.pass) c.learn_fronts.ensures.fronts.0 c.who.invariant.1
    (subst (λ (r : TakerState). IsSome r.sent)
    (sym c.who.view_is) c.requires.gathered) c.learn_fronts.ensures.fronts.1 in
    subst (λ (v : View). IsTakenState rows (all_sent (length rows) (gathered_in v)))
    (sym c.learn_fronts.ensures.same) was
