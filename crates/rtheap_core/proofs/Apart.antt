-- A text has one answer, whatever the words ask for.
use Rattle.std.proofs.Common.{ℕ, ◌≡◌, inl, inr, List, [], ◌∷◌, true, false, refl, sym, ◌∙◌, subst, arith}
use Rattle.exit_statuses.specs.declared.refusal.Refusal.{Refusal}
use Rattle.exit_statuses.specs.declared.refusal.Refusal.TheVariants.{BadLine, LiveTooSmall, NoRate, TurnsUsed}
use Rattle.exit_statuses.specs.Exits.{IsDue}
use Rattle.exit_statuses.specs.Refusals.{status_of}
use Rattle.exit_statuses.proofs.ExitStatuses.{AreApart}
use Rattle.heap_system.specs.Locals.{is_done}
use Rattle.heap_system.specs.Machines as machines
use Rattle.heap_system.proofs.Lemmas.{done_agree}
use Rattle.rate_plan.specs.declared.PlanFault.{PlanFault}
use Rattle.rate_plan.specs.declared.PlanFault.TheVariants as plans
use Rattle.rate_plan.specs.Rates.{IsAdmitted, IsRefusal}
use Rattle.rtheap_core.specs.declared.schedules.Schedule.{Schedule}
use Rattle.rtheap_core.specs.schedules.Schedules.{turns_of}
use Rattle.rtheap_core.proofs.schedules.SameTurns.{first_run, second_run}
use Rattle.trace_text.specs.Jobs.{Job, IsJob, input_limit}
use Rattle.trace_text.proofs.OneJob.{one_job}
use Rattle.trace_text.proofs.WholeLaws.{apart}
use Rattle.rtheap_core.specs.declared.task.Task.{Task}
use Rattle.rtheap_core.specs.declared.task.Task.TheVariants.{Replay}
use Rattle.rtheap_core.specs.TopCalls.{IsDoneBy, IsFine}
use Rattle.rtheap_core.specs.EndedRuns.{EndsIn}
use Rattle.rtheap_core.specs.Refusals.{LeavesUndone, UsesTurns, Causes}
use Rattle.rtheap_core.specs.Tasks.{Ask, AskForJob}
use Rattle.rtheap_core.proofs.OneTask.{one_task}

-- a replay does not both end and leave a thread undone
pub not_both_ways : (job : Job) (schedule : Schedule) (turns thread : ℕ) (r q : machines.Run)
    → EndsIn job schedule turns r → LeavesUndone job schedule turns thread q → ⊥
not_both_ways job schedule turns thread r q e l =
    let c = job.config in
    let ts = job.traces in
    let same : is_done (machines.local_in c r thread) ≡ is_done (machines.local_in c q thread) =
    done_agree c ts (turns_of schedule c e.replayed.first turns) r q
    (first_run c ts schedule turns r e.replayed)
    (second_run c ts schedule turns r q e.replayed l.replayed) thread in
    let clash : true ≡ false = sym (e.done thread l.least.there) ∙ same ∙ l.least.undone in
    cc

-- an admitted configuration is not refused
not_both : (job : Job) (fault : PlanFault) → IsAdmitted job.config → IsRefusal job.config fault → ⊥
not_both job plans.LiveTooSmall a r = omega (arith, a.opens, r)
not_both job plans.NoRate a r = omega (arith, a.room, r.1)

-- one text is not a job with a rate and a job without
pub not_jobs : (text : List ℕ) (j job : Job) → IsJob text j → IsJob text job → IsAdmitted j.config
    → (fault : PlanFault) → IsRefusal job.config fault → ⊥
not_jobs text j job i k a fault f =
    not_both job fault
    (subst (λ (x : Job). IsAdmitted x.config) (one_job text j job i k) a) f

module _ (words : List (List ℕ)) where
  one_status : (b : List ℕ) (r q : Refusal) → Causes words b r → Causes words b q
      → status_of r ≡ status_of q
  one_status b (BadLine line why) (BadLine other reason) c d = refl
  one_status b (BadLine line why) LiveTooSmall c d = absurd (apart b d.0 line why d.1 c)
  one_status b (BadLine line why) NoRate c d = absurd (apart b d.0 line why d.1 c)
  one_status b (BadLine line why) (TurnsUsed thread) c d =
      absurd (apart b d.job line why d.is_job c)
  one_status b (BadLine line why) _ c d = absurd d
  one_status b LiveTooSmall (BadLine line why) c d = absurd (apart b c.0 line why c.1 d)
  one_status b LiveTooSmall LiveTooSmall c d = refl
  one_status b LiveTooSmall NoRate c d = refl
  one_status b LiveTooSmall (TurnsUsed thread) c d =
      absurd (not_jobs b d.job c.0 d.is_job c.1 d.admitted plans.LiveTooSmall c.2)
  one_status b LiveTooSmall _ c d = absurd d
  one_status b NoRate (BadLine line why) c d = absurd (apart b c.0 line why c.1 d)
  one_status b NoRate LiveTooSmall c d = refl
  one_status b NoRate NoRate c d = refl
  one_status b NoRate (TurnsUsed thread) c d =
      absurd (not_jobs b d.job c.0 d.is_job c.1 d.admitted plans.NoRate c.2)
  one_status b NoRate _ c d = absurd d
  one_status b (TurnsUsed thread) (BadLine line why) c d =
      absurd (apart b c.job line why c.is_job d)
  one_status b (TurnsUsed thread) LiveTooSmall c d =
      absurd (not_jobs b c.job d.0 c.is_job d.1 c.admitted plans.LiveTooSmall d.2)
  one_status b (TurnsUsed thread) NoRate c d =
      absurd (not_jobs b c.job d.0 c.is_job d.1 c.admitted plans.NoRate d.2)
  one_status b (TurnsUsed thread) (TurnsUsed other) c d = refl
  one_status b (TurnsUsed thread) _ c d = absurd d
  one_status b _ _ c d = absurd c

  -- the turns of the words' replay do not both end it and leave a thread undone
  not_stopped : (b : List ℕ) (thread : ℕ) → UsesTurns words b thread → IsFine words b → ⊥
  not_stopped b thread u f =
      let task : f.task ≡ Replay u.schedule u.turns =
      one_task words f.task (Replay u.schedule u.turns) f.asked u.asked in
      let ends : IsDoneBy (Replay u.schedule u.turns) u.job =
      subst (λ (t : Task). IsDoneBy t u.job) task
      (subst (IsDoneBy f.task) (one_job b f.job u.job f.is_job u.is_job) f.done) in
      not_both_ways u.job u.schedule u.turns thread ends.0 u.run ends.1 u.leaves

  not_fine : (b : List ℕ) (r : Refusal) → Causes words b r → IsFine words b → ⊥
  not_fine b (BadLine line why) c f = apart b f.job line why f.is_job c
  not_fine b LiveTooSmall c f =
      not_jobs b f.job c.0 f.is_job c.1 f.admitted plans.LiveTooSmall c.2
  not_fine b NoRate c f = not_jobs b f.job c.0 f.is_job c.1 f.admitted plans.NoRate c.2
  not_fine b (TurnsUsed thread) c f = not_stopped b thread c f
  not_fine b _ c f = absurd c

  own_status : (b : List ℕ) (r : Refusal) → Causes words b r → IsDue (4 ∷ 8 ∷ []) (status_of r)
  own_status b (BadLine line why) c = inr (inr (inl refl))
  own_status b LiveTooSmall c = inr (inr (inr (inr (inr (inl refl)))))
  own_status b NoRate c = inr (inr (inr (inr (inr (inl refl)))))
  own_status b (TurnsUsed thread) c = inr (inr (inr (inr (inr (inr (inl refl))))))
  own_status b _ c = absurd c

  pub are_apart : AreApart Ask AskForJob input_limit (Causes words) (IsFine words) (4 ∷ 8 ∷ [])
  are_apart = record {
    asked = λ other a. (a.0, a.2);
    one = one_status;
    not_fine = not_fine;
    due = own_status;
  }
