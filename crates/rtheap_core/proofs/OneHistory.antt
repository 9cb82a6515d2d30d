-- All that is said of an ended run, put together for one history.
use Rattle.std.proofs.Common.{ℕ, ◌≡◌, List, Option, Some, None, IfSome, IsSome, take, refl, subst}
use Rattle.block_store.specs.declared.Config.{Config}
use Rattle.block_store.specs.Configs.{IsInBounds}
use Rattle.exit_statuses.specs.Sides.{Sides}
use Rattle.heap_system.specs.Machines as machines
use Rattle.heap_system.specs.Machines.{IsRunOf}
use Rattle.never_heap.specs.declared.Command.{Command}
use Rattle.never_heap.specs.Histories.{HistoryItem}
use Rattle.never_heap.specs.Runs.{IsRun}
use Rattle.rate_plan.specs.Rates.{IsAdmitted}
use Rattle.rtheap_core.specs.declared.schedules.Schedule.{Schedule}
use Rattle.trace_text.specs.Jobs.{Job, IsJobInBounds}
use Rattle.rtheap_core.specs.declared.exit.RunEnd.{RunEnd}
use Rattle.rtheap_core.specs.declared.exit.RunEnd.TheVariants.{Replayed, Ran}
use Rattle.rtheap_core.specs.declared.task.Task.{Task}
use Rattle.rtheap_core.specs.declared.task.Task.TheVariants.{Run, Replay, Plan, Make, Trial}
use Rattle.rtheap_core.specs.EndedRuns.{job_of}
use Rattle.rtheap_core.specs.Exits.{Headline, IsReplay, IsOfThreads, NoneFull}
use Rattle.rtheap_core.specs.LateFulls.{AreFullsLate}
use Rattle.rtheap_core.specs.OneHistory.{IsByThreads, IsBySchedule, HasOneHistory}
use Rattle.rtheap_core.specs.Owners.{HasOwners}
use Rattle.rtheap_core.specs.Tasks.{AsksFor, AskForRun, Runs}
use Rattle.rtheap_core.proofs.LogsWithoutFulls.{parts_unfilled}
use Rattle.rtheap_core.proofs.OneTask.{one_task}

module _ (owners_law : (job : Job) → IsJobInBounds job → IsAdmitted job.config → (turns : List ℕ)
    (r : machines.Run) → IsRunOf job.config job.traces turns r → HasOwners job.config r)
    (late_law : (c : Config) (rate : ℕ) (traces : List (List Command)) (h : List HistoryItem)
    → IsInBounds c → IsAdmitted c → IsRun c rate traces h → AreFullsLate h)
    (words : List (List ℕ)) (source sink : Sides) (status : ℕ) where
  of_one : (end : RunEnd) (h : Headline source sink status end)
      → (AsksFor words Run → IsByThreads end h.ran)
      → ((schedule : Schedule) (turns : ℕ) → AsksFor words (Replay schedule turns)
      → IsBySchedule schedule turns end h.ran) → HasOneHistory words source sink status end
  of_one end h ran replayed = record {
    headline = h;
    ran = ran;
    replayed = replayed;
    none_full = λ small. subst NoneFull h.ran.parts_logged
        (parts_unfilled 0 (job_of end).config.threads h.ran.history (h.ran.none_full small));
    late = late_law (job_of end).config h.ran.rate (job_of end).traces h.ran.history
        h.read.is_job.in_bounds.config h.admitted h.ran.is_run;
    owners = λ n r by.
        owners_law (job_of end) h.read.is_job.in_bounds h.admitted (take n h.ran.turned.turns) r by;
  }

  of_run : (end : RunEnd) → AsksFor words Run → IsOfThreads source sink status end
      → HasOneHistory words source sink status end
  of_run (Replayed f) asked is = absurd is
  of_run (Ran f) asked is = of_one (Ran f) is.0 (λ _. is.1)
      (λ schedule turns other.
      let same = one_task words Run (Replay schedule turns) asked other in absurd cc)

  of_replay : (schedule : Schedule) (turns : ℕ) (end : RunEnd)
      → AsksFor words (Replay schedule turns) → IsReplay source sink status schedule turns end
      → HasOneHistory words source sink status end
  of_replay schedule turns (Ran f) asked is = absurd is
  of_replay schedule turns (Replayed f) asked is = of_one (Replayed f) is.0
      (λ other.
      let same = one_task words (Replay schedule turns) Run asked other in absurd cc)
      (λ s n other.
      let same = one_task words (Replay schedule turns) (Replay s n) asked other in
      let schedules : schedule ≡ s = cc in
      let numbers : turns ≡ n = cc in
      subst (λ k. IsBySchedule s k (Replayed f) is.0.ran) numbers
      (subst (λ k. IsBySchedule k turns (Replayed f) is.0.ran) schedules is.1))

  -- of a call that may have run
  pub one_history : (o : Option RunEnd) → (IsSome o → AskForRun words)
      → (AsksFor words Run → IfSome o (IsOfThreads source sink status))
      → ((schedule : Schedule) (turns : ℕ) → AsksFor words (Replay schedule turns)
      → IfSome o (IsReplay source sink status schedule turns))
      → IfSome o (HasOneHistory words source sink status)
  one_history None asked ran replayed = tt
  one_history (Some end) asked ran replayed =
      let ask = asked refl in by ask.0 ask.1 ask.2
    where
      by : (task : Task) → Runs task → AsksFor words task
          → HasOneHistory words source sink status end
      by Run runs asks = of_run end asks (ran asks)
      by (Replay schedule turns) runs asks =
          of_replay schedule turns end asks (replayed schedule turns asks)
      by Plan runs asks = absurd runs
      by (Make key lines) runs asks = absurd runs
      by (Trial key lines) runs asks = absurd runs
