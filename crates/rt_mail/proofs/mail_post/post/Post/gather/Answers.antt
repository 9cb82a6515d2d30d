use Rattle.std.proofs.Common.{◌≡◌, ◌++◌, sym, subst, ap, ◌∙◌, List, ℕ, length, map, Option, Some, IsSome}
use Rattle.rt_mail.specs.declared.mail_post.views.Whole.{Whole}
use Rattle.rt_mail.specs.mail_post.Rule.{gathered_in}
use Rattle.rt_mail.specs.mail_post.NumberRows.{rows_of}
use Rattle.rt_mail.specs.mail_post.PostStates.{TakerState, AreAll, all_sent, known_sent, whole_of}
use Rattle.crossbeam_queue.specs.Passes.{view}
use Rattle.rt_mail.proofs.mail_post.EndFacts.{gathered_all, known_all, some_known}
use Rattle.rt_mail.proofs.mail_post.post.Post.gather.Given.{Over}
use Rattle.rt_mail.proofs.mail_post.post.Post.gather.Goals as goal

all : (g : Over) (c : goal.After-take_all_in g)
    → AreAll (length (rows_of c.who.inside.rows.items)) c.args.senders.items
all g c = subst (λ (r : TakerState). AreAll (length r.taken) c.args.senders.items)
    (sym c.who.view_is) c.requires.all

pub invariant_of-who : goal.invariant_of-who
invariant_of-who g c = (
  c.take_all_in.ensures.line.2 ∙ c.who.invariant.0,
  gathered_all (rows_of c.who.inside.rows.items) (view c.who.inside.pass)
      (view c.take_all_in.new.pass) c.args.senders.items c.who.invariant.1
      (all g c) c.take_all_in.ensures.view,
)

known_now : (g : Over) (c : goal.After-take_all_in g)
    → known_sent (length (rows_of c.who.inside.rows.items)) (gathered_in (view c.take_all_in.new.pass))
    ≡ known_sent (length (rows_of c.who.inside.rows.items))
    (gathered_in (view c.who.inside.pass) ++ map whole_of c.args.senders.items)
known_now g c =
    ap (λ (ws : List Whole). known_sent (length (rows_of c.who.inside.rows.items)) ws)
    (ap gathered_in c.take_all_in.ensures.view)

pub returns-clause-gathered : goal.returns-clause-gathered
returns-clause-gathered g c =
    subst (λ (o : Option (List (List ℕ))). IsSome o) (sym (known_now g c))
    (some_known (length (rows_of c.who.inside.rows.items)) (gathered_in (view c.who.inside.pass))
    c.args.senders.items c.who.invariant.1.some (all g c))

pub returns-clause-sent : goal.returns-clause-sent
returns-clause-sent g c = λ none.
    let n : ℕ = length (rows_of c.who.inside.rows.items) in
    let long : n ≡ length c.args.who.now.taken =
    ap (λ (r : TakerState). length r.taken) c.who.view_is in
    known_now g c
    ∙ known_all n (gathered_in (view c.who.inside.pass)) c.args.senders.items
    c.who.invariant.1.some (all g c) (ap (λ (r : TakerState). r.sent) c.who.view_is ∙ none)
    ∙ ap (λ (m : ℕ). Some (all_sent m (map whole_of c.args.senders.items))) long
