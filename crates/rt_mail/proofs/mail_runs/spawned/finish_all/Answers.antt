use Rattle.std.proofs.Common.{ap, sym, subst, ◌∙◌, ◌++◌, ◌∷◌, [], arith, length, List, append_assoc}
use Rattle.rt_mail.specs.mail_runs.Spawned.{AllGive}
use Rattle.rt_mail.specs.declared.mail_runs.spawned.Spawned.{Spawned}
use Rattle.rt_mail.proofs.mail_runs.SpawnedThreads.{gives_more}
use Rattle.rt_mail.proofs.mail_runs.spawned.finish_all.Goals as goal

pub loop-one-preserved : goal.loop-one-preserved
loop-one-preserved g c = (
  append_assoc c.loop-one.yielded (c.in-Some.one ∷ []) _
      ∙ ap (λ (bs : List Spawned). c.loop-one.yielded ++ bs) (sym c.in-Some.ensures.steps.0)
      ∙ c.loop-one.invariant.0,
  omega (arith, c.in-Some.ensures.steps.1, c.loop-one.invariant.1, ap length c.in-Some.ensures.steps.0),
  subst (AllGive (c.loop-one.yielded ++ c.in-Some.one ∷ [])) (sym c.in_ok-push.ensures.items)
      (gives_more c.loop-one.yielded c.loop-one.mail_threads.items c.in-Some.one c.finish.result
      c.loop-one.invariant.2 c.finish.ensures),
  tt,
  tt,
)
