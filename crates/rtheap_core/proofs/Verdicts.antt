-- What a call answers to an input that is known.
use Rattle.std.proofs.Common.{ℕ, ◌≡◌, ◌+◌, ◌≤◌, ◌<◌, ◌⊎◌, inl, inr, List, length, drop, Option, false, true, Some, None, IfSome, refl, sym, ◌∙◌, subst, arith}
use Rattle.std.proofs.lemmas.Bool.{cases_eq}
use Rattle.block_store.specs.declared.Config.{Config}
use Rattle.exit_statuses.specs.declared.refusal.Refusal.{Refusal}
use Rattle.exit_statuses.specs.declared.refusal.Refusal.TheVariants.{Usage, BadLine, TooLong, LiveTooSmall, NoRate, ReadFault, OutOfMemory, TurnsUsed}
use Rattle.exit_statuses.specs.Exits.{IsDueOrFails, IsDueFor}
use Rattle.exit_statuses.specs.Refusals.{status_of, HasRead}
use Rattle.exit_statuses.specs.Sides.{Sides}
use Rattle.exit_statuses.proofs.ExitStatuses.{map_told}
use Rattle.never_heap.specs.declared.Command.{Command}
use Rattle.rate_plan.specs.declared.PlanFault.{PlanFault}
use Rattle.rate_plan.specs.declared.PlanFault.TheVariants as plans
use Rattle.rate_plan.specs.Rates.{IsAdmitted, IsRate, IsRefusal}
use Rattle.heap_system.specs.Machines as machines
use Rattle.heap_system.specs.Serials.{job_bound}
use Rattle.heap_system.specs.Systems.{AllDone}
use Rattle.heap_system.proofs.Lemmas.{job_of_text}
use Rattle.rtheap_core.specs.declared.schedules.Schedule.{Schedule}
use Rattle.rtheap_core.specs.declared.schedules.Schedule.TheVariants.{Serial}
use Rattle.rtheap_core.specs.schedules.Replays.{IsReplayed}
use Rattle.trace_text.specs.Jobs.{Job, IsJob, IsInput, input_limit}
use Rattle.trace_text.proofs.OneJob.{one_job}
use Rattle.trace_text.proofs.WholeLaws.{apart}
use Rattle.rtheap_core.specs.declared.task.Task.{Task}
use Rattle.rtheap_core.specs.declared.task.Task.TheVariants.{Run, Replay, Plan}
use Rattle.rtheap_core.specs.TopCalls.{Call, IsCarriedOut, IsComplete, IsDoneBy, exit_of}
use Rattle.rtheap_core.specs.Refusals.{IsCause, LeavesUndone}
use Rattle.rtheap_core.specs.Tasks.{AsksFor, Ask, AskForJob, Reads}
use Rattle.rtheap_core.proofs.Apart.{not_jobs}
use Rattle.rtheap_core.proofs.OneTask.{one_task}

-- the laws of the ends of replays
pub record Laws : Type 0 where
  pub serial : (c : Config) (traces : List (List Command)) (turns rate : ℕ) (r : machines.Run)
      → machines.IsJob c traces → IsRate c rate → IsReplayed c traces Serial turns r
      → job_bound c rate traces ≤ turns → AllDone c r.state
  pub single : (c : Config) (traces : List (List Command)) (schedule : Schedule)
      (turns rate : ℕ) (r : machines.Run) → machines.IsJob c traces → IsRate c rate
      → c.threads ≡ 1 → IsReplayed c traces schedule turns r → job_bound c rate traces ≤ turns
      → AllDone c r.state

-- a thread is not left undone where all are done
not_left : (job : Job) (schedule : Schedule) (turns thread : ℕ) (q : machines.Run)
    → LeavesUndone job schedule turns thread q → AllDone job.config q.state → ⊥
not_left job schedule turns thread q l all =
    let clash : true ≡ false = sym (all thread l.least.there) ∙ l.least.undone in cc

-- a fact of what is told, where something is
if_told : (left : Option (List ℕ)) (P : List ℕ → Type 0)
    → ((bytes : List ℕ) → left ≡ Some bytes → P bytes) → IfSome left P
if_told None P f = tt
if_told (Some bytes) P f = f bytes refl

-- ---- a replay of a known job

-- the turns of the schedule leave a thread undone
abbrev Stops : Schedule → ℕ → Job → Type 0
Stops schedule turns job =
    (run : machines.Run) × (thread : ℕ) × LeavesUndone job schedule turns thread run

-- the replay was done or failed, or its turns were used
abbrev DoneOrUsed : Schedule → ℕ → Job → ℕ → Type 0
DoneOrUsed schedule turns job due =
    IsDueOrFails 0 due ⊎ ((due ≡ 8) × Stops schedule turns job)

module _ (words : List (List ℕ)) (source : Sides) (schedule : Schedule) (turns : ℕ)
    (asked : AsksFor words (Replay schedule turns)) (bytes : List ℕ)
    (told : source.bytes ≡ Some bytes) (job : Job) (input : IsInput bytes job)
    (admitted : IsAdmitted job.config) where
  -- a text that was read is that of the job
  read_it : (P : List ℕ → Type 0) (h : HasRead input_limit P source) → IsJob h.text job
  read_it P h =
      subst (λ (b : List ℕ). IsJob b job)
      (subst (λ (o : Option (List ℕ)). IfSome o (λ b. b ≡ h.text)) told h.whole.told) input.is_job

  refused_as : (due : ℕ) (r : Refusal) → due ≡ status_of r → IsCause words source r
      → DoneOrUsed schedule turns job due
  refused_as due Usage e c = absurd (c.0 (Replay schedule turns, asked))
  refused_as due ReadFault e c = inl (inr (inl e))
  refused_as due OutOfMemory e c = inl (inr (inr e))
  refused_as due TooLong e (inl c) =
      let long = subst (λ (o : Option (List ℕ)). IfSome o (λ b. (input_limit < length b)
      × (source.bytes_now ≡ Some (drop (input_limit + 1) b)))) told c.1.0 in
      absurd (omega (arith, input.within, long.0))
  refused_as due TooLong e (inr c) = absurd c.1.holds
  refused_as due (BadLine line why) e c =
      absurd (apart c.1.text job line why (read_it _ c.1) c.1.holds)
  refused_as due LiveTooSmall e c =
      absurd (not_jobs c.1.text job c.1.holds.0 (read_it _ c.1) c.1.holds.1 admitted
      plans.LiveTooSmall c.1.holds.2)
  refused_as due NoRate e c =
      absurd (not_jobs c.1.text job c.1.holds.0 (read_it _ c.1) c.1.holds.1 admitted
      plans.NoRate c.1.holds.2)
  refused_as due (TurnsUsed thread) e c =
      let u = c.1.holds in
      let same = one_task words (Replay u.schedule u.turns) (Replay schedule turns) u.asked asked in
      let schedules : u.schedule ≡ schedule = cc in
      let numbers : u.turns ≡ turns = cc in
      let jobs : u.job ≡ job = one_job c.1.text u.job job u.is_job (read_it _ c.1) in
      let leaves : LeavesUndone job schedule turns thread u.run =
      subst (λ (j : Job). LeavesUndone j schedule turns thread u.run) jobs
      (subst (λ (n : ℕ). LeavesUndone u.job schedule n thread u.run) numbers
      (subst (λ (s : Schedule). LeavesUndone u.job s u.turns thread u.run) schedules u.leaves)) in
      inr (e, (u.run, thread, leaves))
  refused_as due _ e c = absurd c.1.holds

-- ---- a call

-- words that ask for no job are refused for want of memory alone
memory_alone : (words : List (List ℕ)) (source : Sides) (r : Refusal) → Ask words
    → (AskForJob words → ⊥) → IsCause words source r → status_of r ≡ 7
memory_alone words source Usage asked n c = absurd (c.0 asked)
memory_alone words source OutOfMemory asked n c = refl
memory_alone words source ReadFault asked n c = absurd (n c.0)
memory_alone words source TooLong asked n (inl c) = absurd (n c.0)
memory_alone words source TooLong asked n (inr c) = absurd (n c.0)
memory_alone words source _ asked n c = absurd (n c.0)

module _ (laws : Laws) (c : Call) (done : IsCarriedOut c) where
  rateless : AskForJob c.words → (job : Job) (fault : PlanFault)
      → IsDueFor 4 (λ bytes. IsInput bytes job × IsRefusal job.config fault) (exit_of c)
  rateless a job plans.LiveTooSmall =
      map_told c.source.bytes _ _ (λ bytes h p. h (p.0.within, (job, p.0.is_job, p.1)))
      (done.ended.caused a LiveTooSmall)
  rateless a job plans.NoRate =
      map_told c.source.bytes _ _ (λ bytes h p. h (p.0.within, (job, p.0.is_job, p.1)))
      (done.ended.caused a NoRate)

  fine : (task : Task) → Reads task → AsksFor c.words task → (job : Job) → IsDoneBy task job
      → IsDueFor 0 (λ bytes. IsInput bytes job × IsAdmitted job.config) (exit_of c)
  fine task reads asked job by =
      map_told c.source.bytes _ _ (λ bytes h p. h (
        p.0.within,
        record {
          task = task;
          asked = asked;
          job = job;
          is_job = p.0.is_job;
          admitted = p.1;
          done = by;
        },
      )) (done.ended.fine (task, reads, asked))

  run_or_plan : AsksFor c.words Run ⊎ AsksFor c.words Plan → (job : Job)
      → IsDueFor 0 (λ bytes. IsInput bytes job × IsAdmitted job.config) (exit_of c)
  run_or_plan (inl asked) job = fine Run tt asked job tt
  run_or_plan (inr asked) job = fine Plan tt asked job tt

  stopped : (schedule : Schedule) (turns : ℕ) → AsksFor c.words (Replay schedule turns)
      → (job : Job) (run : machines.Run) (thread : ℕ) → LeavesUndone job schedule turns thread run
      → IsDueFor 8 (λ bytes. IsInput bytes job × IsAdmitted job.config) (exit_of c)
  stopped schedule turns asked job run thread leaves =
      map_told c.source.bytes _ _ (λ bytes h p. h (
        p.0.within,
        record {
          schedule = schedule;
          turns = turns;
          asked = asked;
          job = job;
          is_job = p.0.is_job;
          admitted = p.1;
          run = run;
          leaves = leaves;
        },
      )) (done.ended.caused (Replay schedule turns, tt, asked) (TurnsUsed thread))

  found : (schedule : Schedule) (turns : ℕ) → AsksFor c.words (Replay schedule turns)
      → (bytes : List ℕ) → c.source.bytes ≡ Some bytes → (job : Job) → IsInput bytes job
      → IsAdmitted job.config → DoneOrUsed schedule turns job c.exit.due
  found schedule turns asked bytes told job input admitted = elim (cases_eq c.exit.due 0) [
    | inl e ↦ inl (inl e)
    | inr n ↦
        let r = done.ended.refused n in
        refused_as c.words c.source schedule turns asked bytes told job input admitted c.exit.due
        r.refusal r.is_due r.cause
  ]

  -- a replay of a known job that does not stop
  goes_on : (schedule : Schedule) (turns : ℕ) → AsksFor c.words (Replay schedule turns)
      → (job : Job) → (machines.IsJob job.config job.traces → Stops schedule turns job → ⊥)
      → IsDueFor 0 (λ bytes. IsInput bytes job × IsAdmitted job.config) (exit_of c)
  goes_on schedule turns asked job n = if_told c.source.bytes _ (λ bytes told p.
      elim (found schedule turns asked bytes told job p.0 p.1) [
        | inl d ↦ d
        | inr u ↦ absurd (n (job_of_text _ _ p.0.is_job.in_bounds p.1) u.1)
      ])

  known : (schedule : Schedule) (turns : ℕ) → AsksFor c.words (Replay schedule turns)
      → (job : Job) → IfSome c.source.bytes (λ bytes. IsInput bytes job × IsAdmitted job.config
      → IsDueOrFails 0 c.exit.due ⊎ (c.exit.due ≡ 8))
  known schedule turns asked job = if_told c.source.bytes _ (λ bytes told p.
      elim (found schedule turns asked bytes told job p.0 p.1) [
        | inl d ↦ inl d
        | inr u ↦ inr u.0
      ])

  generates : Ask c.words → (AskForJob c.words → ⊥) → (c.exit.due ≡ 0) ⊎ (c.exit.due ≡ 7)
  generates asked n = elim (cases_eq c.exit.due 0) [
    | inl e ↦ inl e
    | inr e ↦
        let r = done.ended.refused e in
        inr (r.is_due ∙ memory_alone c.words c.source r.refusal asked n r.cause)
  ]

  pub completes : IsComplete c
  completes = record {
    no_rate = rateless;
    complete = run_or_plan;
    replay_ends = λ schedule turns asked job run ends.
        fine (Replay schedule turns) tt asked job (run, ends);
    replay_stops = stopped;
    replay_due = known;
    serial_ends = λ turns asked job rate is enough. goes_on Serial turns asked job
        (λ j s. not_left job Serial turns s.1 s.0 s.2
        (laws.serial job.config job.traces turns rate s.0 j is s.2.replayed enough));
    single_ends = λ schedule turns asked job rate one is enough.
        goes_on schedule turns asked job
        (λ j s. not_left job schedule turns s.1 s.0 s.2
        (laws.single job.config job.traces schedule turns rate s.0 j is one s.2.replayed enough));
    generates = generates;
  }
