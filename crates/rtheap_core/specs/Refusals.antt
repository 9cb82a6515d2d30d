-- Why a call was refused: which text causes which refusal.
use Rattle.std.specs.Prelude.{ℕ, List}
use Rattle.exit_statuses.specs.declared.refusal.Refusal.{Refusal}
use Rattle.exit_statuses.specs.declared.refusal.Refusal.TheVariants.{BadLine, LiveTooSmall, NoRate, TurnsUsed}
use Rattle.exit_statuses.specs.Refusals as calls
use Rattle.exit_statuses.specs.Sides.{Sides}
use Rattle.rate_plan.specs.declared.PlanFault.TheVariants as plans
use Rattle.rate_plan.specs.Rates.{IsAdmitted, IsRefusal}
use Rattle.heap_system.specs.Machines.{Run}
use Rattle.heap_system.specs.Systems.{IsLeastUndone}
use Rattle.rtheap_core.specs.declared.schedules.Schedule.{Schedule}
use Rattle.rtheap_core.specs.schedules.Replays.{IsReplayed}
use Rattle.trace_text.specs.Jobs.{Job, IsJob, input_limit}
use Rattle.trace_text.specs.Refusals.{IsFirstBadLine}
use Rattle.rtheap_core.specs.declared.task.Task.TheVariants.{Replay}
use Rattle.rtheap_core.specs.Tasks.{AsksFor, Ask, AskForJob}

-- the text is a job of which this holds
abbrev pub IsJobWith : (Job → Type 0) → List ℕ → Type 0
IsJobWith P text = (job : Job) × IsJob text job × P job

-- after the first turns of the schedule, over the job, the thread is the least that is not done
pub record LeavesUndone (job : Job) (schedule : Schedule) (turns thread : ℕ) (run : Run)
    : Type 0 where
  pub replayed : IsReplayed job.config job.traces schedule turns run
  pub least : IsLeastUndone job.config run.state thread

-- the words ask for a replay, and their turns over the job that the text is leave the thread undone
pub record UsesTurns (words : List (List ℕ)) (text : List ℕ) (thread : ℕ) : Type 0 where
  pub schedule : Schedule
  pub turns : ℕ
  pub asked : AsksFor words (Replay schedule turns)
  pub job : Job
  pub is_job : IsJob text job
  pub admitted : IsAdmitted job.config
  pub run : Run
  pub leaves : LeavesUndone job schedule turns thread run

-- which text causes which refusal, where the words are these
abbrev pub Causes : List (List ℕ) → List ℕ → Refusal → Type 0
Causes words text (BadLine line why) = IsFirstBadLine text line why
Causes words text LiveTooSmall = IsJobWith (λ job. IsRefusal job.config plans.LiveTooSmall) text
Causes words text NoRate = IsJobWith (λ job. IsRefusal job.config plans.NoRate) text
Causes words text (TurnsUsed thread) = UsesTurns words text thread
Causes words text r = ⊥

-- what caused a refusal, by the words, and by the source
abbrev pub IsCause : List (List ℕ) → Sides → Refusal → Type 0
IsCause words source r = calls.IsCause Ask AskForJob input_limit (Causes words) words source r
