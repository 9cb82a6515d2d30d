use Rattle.std.proofs.Common.{◌≡◌, sym, subst, ap, ◌∙◌, List, ℕ, IfSome}
use Rattle.rt_mail.specs.mail_post.NumberRows.{rows_of, took}
use Rattle.rt_mail.specs.mail_post.PostStates.{TakerState, IsTaker}
use Rattle.crossbeam_queue.specs.Passes.{view}
use Rattle.rt_mail.proofs.mail_post.EndFacts.{took_more, all_taken}
use Rattle.rt_mail.proofs.mail_post.post.Post.take.Goals as goal

pub returns-in_default-clause-none : goal.returns-in_default-clause-none
returns-in_default-clause-none g c = λ _. (
  c.in_ok-make_room.ensures.same ∙ ap (λ (r : TakerState). r.taken) c.who.view_is,
  subst (λ (r : TakerState). IfSome r.sent (λ all. r.taken
      ≡ all)) c.who.view_is (all_taken (rows_of c.who.inside.rows.items)
      (view c.who.inside.pass) c.who.invariant.1 (c.pop_letter.ensures.none c.in_default.is).1),
)

pub invariant_of-who-2 : goal.invariant_of-who-2
invariant_of-who-2 g c = (
  c.pop_letter.ensures.line.2 ∙ c.who.invariant.0,
  subst (λ (rs : List (List ℕ)). IsTaker rs (view c.pop_letter.new.pass))
      (sym (c.put_in.ensures ∙ ap (λ (rs : List
      (List ℕ)). took rs c.in-Some.letter.thread c.in-Some.letter.number)
      c.in_ok-make_room.ensures.same))
      (took_more (rows_of c.who.inside.rows.items) (view c.who.inside.pass)
      (view c.pop_letter.new.pass) c.in-Some.letter c.who.invariant.1 c.in-Some.ensures.some.0
      c.in-Some.ensures.some.1),
)
