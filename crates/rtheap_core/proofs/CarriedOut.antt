-- What a call did, put together from what it found and what it wrote.
use Rattle.std.proofs.Common.{ℕ, ◌≡◌, ◌≢◌, ◌↔◌, List, [], ◌∷◌, codes, Option, Some, None, IfSome, IsSome, refl, sym, ◌∙◌, subst}
use Rattle.atom_board.specs.Mutators.{ClosedState}
use Rattle.exit_statuses.specs.declared.refusal.Refusal.{Refusal}
use Rattle.exit_statuses.specs.Exits.{IsWritten, IsToldBy}
use Rattle.exit_statuses.specs.Refusals.{status_of, refusal_line, HasRead}
use Rattle.exit_statuses.specs.Sides.{IsUnfailed, IsUntouched}
use Rattle.exit_statuses.proofs.ExitStatuses.{never_done, done_is_ended, refusal_is_ended}
use Rattle.heap_system.specs.Systems.{Finish}
use Rattle.heap_system.specs.Systems.{units_of as units_in}
use Rattle.rtheap_core.specs.declared.schedules.Schedule.{Schedule}
use Rattle.trace_text.specs.Jobs.{input_limit}
use Rattle.trace_text.specs.JobTexts.{job_text}
use Rattle.trace_text.specs.OrderTexts.{text_in_order}
use Rattle.trace_text.specs.Streams.{Appends, AppendsPrefix}
use Rattle.trace_text.specs.RunTexts.{run_text}
use Rattle.rtheap_core.specs.declared.exit.RunEnd.{RunEnd}
use Rattle.rtheap_core.specs.declared.exit.RunEnd.TheVariants.{Replayed, Ran}
use Rattle.rtheap_core.specs.declared.task.Task.{Task}
use Rattle.rtheap_core.specs.declared.task.Task.TheVariants.{Run, Replay, Plan, Make, Trial}
use Rattle.rtheap_core.specs.TopCalls.{Call, IsFine, IsCarriedOut, exit_of}
use Rattle.rtheap_core.specs.EndedRuns.{job_of}
use Rattle.rtheap_core.specs.Exits.{Headline, IsReplay, IsOfThreads, Planned, Tried, rate_text}
use Rattle.rtheap_core.specs.Generated.{generated_job}
use Rattle.rtheap_core.specs.Outcomes.{HasRun, HasReplay, HasRate}
use Rattle.rtheap_core.specs.Refusals.{Causes, IsCause}
use Rattle.rtheap_core.specs.Tasks.{AsksFor, Ask, AskForRun, AskForJob, Runs, Reads}
use Rattle.rtheap_core.proofs.Apart.{are_apart}
use Rattle.rtheap_core.proofs.OneTask.{one_task}
use Rattle.rtheap_core.proofs.Headlines.{headline_of, of_threads, replay_of}
use Rattle.rtheap_core.proofs.Taken.{fine_read}

none_is : (P : RunEnd → Type 0) (o : Option RunEnd) → o ≡ None → IfSome o P
none_is P o e = subst (λ (x : Option RunEnd). IfSome x P) (sym e) tt

not_some : (o : Option RunEnd) → o ≡ None → IsSome o → ⊥
not_some o e s =
    let none : IsSome {T = RunEnd} None = subst (λ (x : Option RunEnd). IsSome x) e s in
    absurd cc

some_is : (P : RunEnd → Type 0) (o : Option RunEnd) (e : RunEnd) → o ≡ Some e → P e → IfSome o P
some_is P o e is p = subst (λ (x : Option RunEnd). IfSome x P) (sym is) p

there : (o : Option RunEnd) (e : RunEnd) → o ≡ Some e → IsSome o
there o e is = subst (λ (x : Option RunEnd). IsSome x) (sym is) refl

-- ---- a task that was done

-- what the call did of the task
pub record IsOf (c : Call) : Type 0 where
  pub headline : IfSome c.exit.run (Headline c.source c.sink c.exit.status)
  pub run : IsSome c.exit.run ↔ (AskForRun c.words × (c.exit.due ≡ 0))
  pub ran : AsksFor c.words Run
      → IfSome c.exit.run (IsOfThreads c.source c.sink c.exit.status)
  pub replayed : (schedule : Schedule) (turns : ℕ) → AsksFor c.words (Replay schedule turns)
      → IfSome c.exit.run (IsReplay c.source c.sink c.exit.status schedule turns)
  pub planned : AsksFor c.words Plan → Planned c.source c.sink c.exit.status
  pub made : (key lines : ℕ) → AsksFor c.words (Make key lines)
      → IsWritten c.sink c.exit.status (job_text (generated_job key lines))
  pub tried : (key lines : ℕ) → AsksFor c.words (Trial key lines)
      → Tried c.sink c.exit.status key lines

abbrev IsTold : Call → Type 0
IsTold c = IsToldBy c.sink c.exit.status c.exit.due

done_is_carried_out : (c : Call) (task : Task) → AsksFor c.words task → c.exit.due ≡ 0
    → IsUnfailed c.source → IsTold c → ((AskForJob c.words → ⊥) → IsUntouched c.source)
    → (AskForJob c.words → HasRead input_limit (IsFine c.words) c.source) → IsOf c
    → IsCarriedOut c
done_is_carried_out c task asked due unfailed t unread fine of = record {
  headline = of.headline;
  run = of.run;
  ran = of.ran;
  replayed = of.replayed;
  planned = λ a _. of.planned a;
  made = λ key lines a _. of.made key lines a;
  tried = λ key lines a _. of.tried key lines a;
  unread = unread;
  any_status = t.any_status;
  ended = done_is_ended Ask AskForJob input_limit (Causes c.words) (IsFine c.words) (4 ∷ 8 ∷ [])
      (are_apart c.words) (codes "rtheap") (exit_of c) t (task, asked) due unfailed fine;
}

-- the words ask for no other task
no_other : {P : Type 0} (words : List (List ℕ)) (s t : Task) → (s ≡ t → ⊥) → AsksFor words s
    → AsksFor words t → P
no_other words s t apart a b = absurd (apart (one_task words s t a b))

not_of : (words : List (List ℕ)) (task : Task) → (Runs task → ⊥) → AsksFor words task
    → AskForRun words → ⊥
not_of words task none asked other =
    none (subst Runs (one_task words other.0 task other.2 asked) other.1)

not_read : (words : List (List ℕ)) (task : Task) → (Reads task → ⊥) → AsksFor words task
    → AskForJob words → ⊥
not_read words task none asked other =
    none (subst Reads (one_task words other.0 task other.2 asked) other.1)

pub run_is_carried_out : (c : Call) (run : ClosedState) → AsksFor c.words Run
    → HasRun c.source (Ran run)
    → IsUnfailed c.source → c.exit.due ≡ 0 → c.exit.run ≡ Some (Ran run)
    → IsWritten c.sink c.exit.status (run_text run.logs run.cycles (units_in run.logs))
    → IsTold c → IsCarriedOut c
run_is_carried_out c run asked has unfailed due is written t =
    done_is_carried_out c Run asked due unfailed t (λ n. absurd (n (Run, tt, asked)))
    (λ _. fine_read c.source (job_of (Ran run)) has.read unfailed c.words Run asked has.admitted tt)
    (record {
      headline = some_is (Headline c.source c.sink c.exit.status) c.exit.run (Ran run) is
          (headline_of c.source c.sink c.exit.status run has written);
      run = (λ _. ((Run, tt, asked), due), λ _. there c.exit.run (Ran run) is);
      ran = λ _. some_is (IsOfThreads c.source c.sink c.exit.status) c.exit.run (Ran run) is
          (of_threads c.source c.sink c.exit.status run has written);
      replayed = λ schedule turns a.
          no_other c.words Run (Replay schedule turns) (λ e. absurd cc) asked a;
      planned = λ a. no_other c.words Run Plan (λ e. absurd cc) asked a;
      made = λ key lines a. no_other c.words Run (Make key lines) (λ e. absurd cc) asked a;
      tried = λ key lines a. no_other c.words Run (Trial key lines) (λ e. absurd cc) asked a;
    })

-- the replay of the schedule and turns that the words say
of_replay : (c : Call) (schedule : Schedule) (turns : ℕ) (f : Finish)
    → AsksFor c.words (Replay schedule turns)
    → IsReplay c.source c.sink c.exit.status schedule turns (Replayed f)
    → (s : Schedule) (n : ℕ) → AsksFor c.words (Replay s n)
    → IsReplay c.source c.sink c.exit.status s n (Replayed f)
of_replay c schedule turns f asked h s n a =
    let same = one_task c.words (Replay schedule turns) (Replay s n) asked a in
    let schedules : schedule ≡ s = cc in
    let numbers : turns ≡ n = cc in
    subst (λ k. IsReplay c.source c.sink c.exit.status s k (Replayed f)) numbers
    (subst (λ k. IsReplay c.source c.sink c.exit.status k turns (Replayed f)) schedules h)

pub replay_is_carried_out : (c : Call) (schedule : Schedule) (turns : ℕ) (f : Finish)
    → AsksFor c.words (Replay schedule turns) → (r : HasReplay c.source schedule turns f)
    → IsUnfailed c.source → c.exit.due ≡ 0 → c.exit.run ≡ Some (Replayed f)
    → IsWritten c.sink c.exit.status (text_in_order r.replayed.ran.history)
    → IsTold c → IsCarriedOut c
replay_is_carried_out c schedule turns f asked has unfailed due is written t =
    let task = Replay schedule turns in
    let replay = replay_of c.source c.sink c.exit.status schedule turns f has written in
    let replayed = has.replayed.replay in
    done_is_carried_out c task asked due unfailed t (λ n. absurd (n (task, tt, asked)))
    (λ _. fine_read c.source (job_of (Replayed f)) has.read unfailed c.words task asked has.admitted
    (replayed.run, replayed.by.ends))
    (record {
      headline = some_is (Headline c.source c.sink c.exit.status) c.exit.run (Replayed f) is replay.0;
      run = (λ _. ((task, tt, asked), due), λ _. there c.exit.run (Replayed f) is);
      ran = λ a. no_other c.words task Run (λ e. absurd cc) asked a;
      replayed = λ s n a.
          some_is (IsReplay c.source c.sink c.exit.status s n) c.exit.run (Replayed f) is
          (of_replay c schedule turns f asked replay s n a);
      planned = λ a. no_other c.words task Plan (λ e. absurd cc) asked a;
      made = λ key lines a. no_other c.words task (Make key lines) (λ e. absurd cc) asked a;
      tried = λ key lines a. no_other c.words task (Trial key lines) (λ e. absurd cc) asked a;
    })

-- a task that runs no job that was read
module _ (c : Call) (task : Task) (asked : AsksFor c.words task) (due : c.exit.due ≡ 0)
    (is : c.exit.run ≡ None) (none : Runs task → ⊥) where
  not_run : IsSome c.exit.run ↔ (AskForRun c.words × (c.exit.due ≡ 0))
  not_run =
      (λ s. absurd (not_some c.exit.run is s), λ p. absurd (not_of c.words task none asked p.0))

  no_replay : (schedule : Schedule) (turns : ℕ) → AsksFor c.words (Replay schedule turns)
      → IfSome c.exit.run (IsReplay c.source c.sink c.exit.status schedule turns)
  no_replay schedule turns a =
      none_is (IsReplay c.source c.sink c.exit.status schedule turns) c.exit.run is

pub plan_is_carried_out : (c : Call) (rate : ℕ) → AsksFor c.words Plan → HasRate c.source rate
    → IsUnfailed c.source → c.exit.due ≡ 0 → c.exit.run ≡ None
    → IsWritten c.sink c.exit.status (rate_text rate) → IsTold c → IsCarriedOut c
plan_is_carried_out c rate asked has unfailed due is written t =
    done_is_carried_out c Plan asked due unfailed t (λ n. absurd (n (Plan, tt, asked)))
    (λ _. fine_read c.source has.job has.read unfailed c.words Plan asked has.admitted tt)
    (record {
      headline = none_is (Headline c.source c.sink c.exit.status) c.exit.run is;
      run = not_run c Plan asked due is (λ r. r);
      ran = λ a. none_is (IsOfThreads c.source c.sink c.exit.status) c.exit.run is;
      replayed = no_replay c Plan asked due is (λ r. r);
      planned = λ _. record {
        job = has.job;
        read = has.read;
        admitted = has.admitted;
        rate = rate;
        is_rate = has.is_rate;
        text = written;
      };
      made = λ key lines a. no_other c.words Plan (Make key lines) (λ e. absurd cc) asked a;
      tried = λ key lines a. no_other c.words Plan (Trial key lines) (λ e. absurd cc) asked a;
    })

pub make_is_carried_out : (c : Call) (key lines : ℕ) → AsksFor c.words (Make key lines)
    → IsUntouched c.source → c.exit.due ≡ 0 → c.exit.run ≡ None
    → IsWritten c.sink c.exit.status (job_text (generated_job key lines)) → IsTold c → IsCarriedOut c
make_is_carried_out c key lines asked untouched due is written t =
    let task = Make key lines in
    done_is_carried_out c task asked due untouched.1 t (λ _. untouched)
    (λ a. absurd (not_read c.words task (λ r. r) asked a)) (record {
      headline = none_is (Headline c.source c.sink c.exit.status) c.exit.run is;
      run = not_run c task asked due is (λ r. r);
      ran = λ a. none_is (IsOfThreads c.source c.sink c.exit.status) c.exit.run is;
      replayed = no_replay c task asked due is (λ r. r);
      planned = λ a. no_other c.words task Plan (λ e. absurd cc) asked a;
      made = λ k l a.
          let same = one_task c.words task (Make k l) asked a in
          let keys : key ≡ k = cc in
          let numbers : lines ≡ l = cc in
          subst (λ n. IsWritten c.sink c.exit.status (job_text (generated_job k n))) numbers
          (subst (λ n. IsWritten c.sink c.exit.status (job_text (generated_job n lines))) keys written);
      tried = λ k l a. no_other c.words task (Trial k l) (λ e. absurd cc) asked a;
    })

pub trial_is_carried_out : (c : Call) (key lines : ℕ) → AsksFor c.words (Trial key lines)
    → IsUntouched c.source → c.exit.due ≡ 0 → c.exit.run ≡ None
    → Tried c.sink c.exit.status key lines → IsTold c → IsCarriedOut c
trial_is_carried_out c key lines asked untouched due is tried t =
    let task = Trial key lines in
    done_is_carried_out c task asked due untouched.1 t (λ _. untouched)
    (λ a. absurd (not_read c.words task (λ r. r) asked a)) (record {
      headline = none_is (Headline c.source c.sink c.exit.status) c.exit.run is;
      run = not_run c task asked due is (λ r. r);
      ran = λ a. none_is (IsOfThreads c.source c.sink c.exit.status) c.exit.run is;
      replayed = no_replay c task asked due is (λ r. r);
      planned = λ a. no_other c.words task Plan (λ e. absurd cc) asked a;
      made = λ k l a. no_other c.words task (Make k l) (λ e. absurd cc) asked a;
      tried = λ k l a.
          let same = one_task c.words task (Trial k l) asked a in
          let keys : key ≡ k = cc in
          let numbers : lines ≡ l = cc in
          subst (λ n. Tried c.sink c.exit.status k n) numbers
          (subst (λ n. Tried c.sink c.exit.status n lines) keys tried);
    })

-- ---- a refusal

pub refusal_is_carried_out : (c : Call) (r : Refusal) → c.exit.due ≡ status_of r
    → c.exit.run ≡ None → IsCause c.words c.source r
    → ((AskForJob c.words → ⊥) → IsUntouched c.source)
    → (c.exit.status ≢ 6
    → Appends c.sink.bytes c.sink.bytes_now (refusal_line (codes "rtheap") r))
    → (c.exit.status ≡ 6
    → AppendsPrefix c.sink.bytes c.sink.bytes_now (refusal_line (codes "rtheap") r))
    → IsTold c → IsCarriedOut c
refusal_is_carried_out c r due is cause unread line front t = record {
  headline = none_is (Headline c.source c.sink c.exit.status) c.exit.run is;
  run = (λ s. absurd (not_some c.exit.run is s), λ p. absurd (never_done r (sym due ∙ p.1)));
  ran = λ _. none_is (IsOfThreads c.source c.sink c.exit.status) c.exit.run is;
  replayed = λ schedule turns _.
      none_is (IsReplay c.source c.sink c.exit.status schedule turns) c.exit.run is;
  planned = λ _ e. absurd (never_done r (sym due ∙ e));
  made = λ _ _ _ e. absurd (never_done r (sym due ∙ e));
  tried = λ _ _ _ e. absurd (never_done r (sym due ∙ e));
  unread = unread;
  any_status = t.any_status;
  ended = refusal_is_ended Ask AskForJob input_limit (Causes c.words) (IsFine c.words) (4 ∷ 8 ∷ [])
      (are_apart c.words) (codes "rtheap") (exit_of c) t r due line front cause;
}
