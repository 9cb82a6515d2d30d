-- What came of a replay of the job that was read.
use Rattle.std.proofs.Common.{ℕ, ◌≡◌, List, Result, Ok, Err, IfOk, IfErr, sym, subst}
use Rattle.exit_statuses.specs.Sides.{Sides, IsUnfailed}
use Rattle.rate_plan.specs.Rates.{IsAdmitted}
use Rattle.heap_system.specs.Systems.{Finish}
use Rattle.rtheap_core.specs.declared.schedules.Schedule.{Schedule}
use Rattle.trace_text.specs.Jobs.{Job}
use Rattle.rtheap_core.specs.declared.exit.RunEnd.TheVariants.{Replayed}
use Rattle.exit_statuses.specs.declared.refusal.Refusal.{Refusal}
use Rattle.exit_statuses.specs.declared.refusal.Refusal.TheVariants.{OutOfMemory, TurnsUsed}
use Rattle.rtheap_core.specs.declared.task.Task.TheVariants.{Replay}
use Rattle.rtheap_core.specs.EndedRuns.{job_of}
use Rattle.rtheap_core.specs.Exits.{IsReadAs}
use Rattle.rtheap_core.specs.Outcomes.{IsReplayShown, HasReplay, IsReplayFault}
use Rattle.rtheap_core.specs.Refusals.{IsCause}
use Rattle.rtheap_core.specs.Tasks.{AsksFor}
use Rattle.rtheap_core.proofs.Taken.{without_memory}

module _ (source : Sides) (job : Job) (schedule : Schedule) (turns : ℕ)
    (read : IsReadAs source job) (admitted : IsAdmitted job.config) where
  cause : IsUnfailed source → (r : Refusal) → IsReplayFault job schedule turns r
      → (words : List (List ℕ)) → AsksFor words (Replay schedule turns) → IsCause words source r
  cause still OutOfMemory f words asked =
      without_memory source job read still words (Replay schedule turns, asked)
  cause still (TurnsUsed thread) f words asked = (
    (Replay schedule turns, tt, asked),
    record {
      text = read.text;
      whole = read.whole;
      holds = record {
        schedule = schedule;
        turns = turns;
        asked = asked;
        job = job;
        is_job = read.is_job;
        admitted = admitted;
        run = f.0;
        leaves = f.1;
      };
      unfailed = still;
    },
  )
  cause still _ f words asked = absurd f

  pub cause_of : IsUnfailed source → (r : Result Finish Refusal)
      → IfErr r (IsReplayFault job schedule turns)
      → IfErr r (λ refusal. (words : List (List ℕ)) → AsksFor words (Replay schedule turns)
      → IsCause words source refusal)
  cause_of still (Ok f) fault = tt
  cause_of still (Err r) fault = cause still r fault

  of_run : (f : Finish) → job_of (Replayed f) ≡ job → IsReplayShown schedule turns f
      → HasReplay source schedule turns f
  of_run f same is = record {
    read = subst (IsReadAs source) (sym same) read;
    admitted = subst (λ (j : Job). IsAdmitted j.config) (sym same) admitted;
    replayed = is;
  }

  pub read_and_replayed : (r : Result Finish Refusal) → IfOk r (λ f. job_of (Replayed f) ≡ job)
      → IfOk r (IsReplayShown schedule turns) → IfOk r (HasReplay source schedule turns)
  read_and_replayed (Ok f) same is = of_run f same is
  read_and_replayed (Err r) same is = tt
