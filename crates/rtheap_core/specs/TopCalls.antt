-- A whole call, and what is promised of it.
use Rattle.std.specs.Prelude.{ℕ, ◌≡◌, ◌≤◌, ◌⊎◌, ◌↔◌, List, [], ◌∷◌, codes, IfSome, IsSome}
use Rattle.exit_statuses.specs.Exits as calls
use Rattle.exit_statuses.specs.Exits.{IsWritten, IsDueOrFails, IsDueFor, IsEnded}
use Rattle.exit_statuses.specs.Sides.{Sides, IsUntouched}
use Rattle.heap_system.specs.Machines as machines
use Rattle.rate_plan.specs.declared.PlanFault.{PlanFault}
use Rattle.heap_system.specs.Serials.{job_bound}
use Rattle.rate_plan.specs.Rates.{IsAdmitted, IsRate, IsRefusal}
use Rattle.rtheap_core.specs.declared.schedules.Schedule.{Schedule}
use Rattle.rtheap_core.specs.declared.schedules.Schedule.TheVariants.{Serial}
use Rattle.trace_text.specs.JobTexts.{job_text}
use Rattle.trace_text.specs.Jobs.{Job, IsJob, IsInput, input_limit}
use Rattle.rtheap_core.specs.declared.exit.Exit.{Exit}
use Rattle.rtheap_core.specs.declared.task.Task.{Task}
use Rattle.rtheap_core.specs.declared.task.Task.TheVariants.{Run, Replay, Plan, Make, Trial}
use Rattle.rtheap_core.specs.EndedRuns.{EndsIn}
use Rattle.rtheap_core.specs.Exits.{Headline, IsReplay, IsOfThreads, Planned, Tried}
use Rattle.rtheap_core.specs.Generated.{generated_job}
use Rattle.rtheap_core.specs.Refusals.{LeavesUndone, Causes}
use Rattle.rtheap_core.specs.Tasks.{AsksFor, Ask, AskForRun, AskForJob}

-- the words that the call was given, its source and its sink, and what it answered
pub record Call : Type 0 where
  pub words : List (List ℕ)
  pub source : Sides
  pub sink : Sides
  pub exit : Exit

-- a call without the run that it shows
abbrev pub exit_of : Call → calls.Exit
exit_of c = record {
  words = c.words;
  source = c.source;
  sink = c.sink;
  status = c.exit.status;
  due = c.exit.due;
}

-- a task is done by a job: a replay comes to its end
abbrev pub IsDoneBy : Task → Job → Type 0
IsDoneBy (Replay schedule turns) job = (run : machines.Run) × EndsIn job schedule turns run
IsDoneBy task job = Unit {0}

-- the text is a job that has a rate, and by which what the words ask for is done
pub record IsFine (words : List (List ℕ)) (text : List ℕ) : Type 0 where
  pub task : Task
  pub asked : AsksFor words task
  pub job : Job
  pub is_job : IsJob text job
  pub admitted : IsAdmitted job.config
  pub done : IsDoneBy task job

-- what a call did, whatever it was given
pub record IsCarriedOut (c : Call) : Type 0 where
  -- What was run is a run of the job that was read, and what was written is its text.
  pub headline : IfSome c.exit.run (λ end. Headline c.source c.sink c.exit.status end)
  -- A run is there exactly where the words ask for it and nothing refused it. It is of threads, or
  -- of the turns of a schedule, as the words say.
  pub run : IsSome c.exit.run ↔ (AskForRun c.words × (c.exit.due ≡ 0))
  pub ran : AsksFor c.words Run
      → IfSome c.exit.run (IsOfThreads c.source c.sink c.exit.status)
  pub replayed : (schedule : Schedule) (turns : ℕ) → AsksFor c.words (Replay schedule turns)
      → IfSome c.exit.run (IsReplay c.source c.sink c.exit.status schedule turns)
  -- The other tasks were done, where nothing refused them.
  pub planned : AsksFor c.words Plan → c.exit.due ≡ 0 → Planned c.source c.sink c.exit.status
  pub made : (key lines : ℕ) → AsksFor c.words (Make key lines) → c.exit.due ≡ 0
      → IsWritten c.sink c.exit.status (job_text (generated_job key lines))
  pub tried : (key lines : ℕ) → AsksFor c.words (Trial key lines) → c.exit.due ≡ 0
      → Tried c.sink c.exit.status key lines
  -- Nothing is read that the words do not ask for.
  pub unread : (AskForJob c.words → ⊥) → IsUntouched c.source
  -- Each status has its cause, and there is no other; and a known text has one answer.
  pub any_status : (c.exit.status ≡ c.exit.due) ⊎ (c.exit.status ≡ 6)
  pub ended : IsEnded Ask AskForJob input_limit (Causes c.words) (IsFine c.words) (4 ∷ 8 ∷ [])
      (codes "rtheap") (exit_of c)

-- what a call has to answer
pub record IsComplete (c : Call) : Type 0 where
  -- A known input has one answer, beside what `ended` says.
  pub no_rate : AskForJob c.words → (job : Job) (fault : PlanFault)
      → IsDueFor 4 (λ bytes. IsInput bytes job × IsRefusal job.config fault) (exit_of c)
  pub complete : AsksFor c.words Run ⊎ AsksFor c.words Plan → (job : Job)
      → IsDueFor 0 (λ bytes. IsInput bytes job × IsAdmitted job.config) (exit_of c)
  -- So has a replay, by the run of the first turns of its schedule.
  pub replay_ends : (schedule : Schedule) (turns : ℕ) → AsksFor c.words (Replay schedule turns)
      → (job : Job) (run : machines.Run) → EndsIn job schedule turns run
      → IsDueFor 0 (λ bytes. IsInput bytes job × IsAdmitted job.config) (exit_of c)
  pub replay_stops : (schedule : Schedule) (turns : ℕ) → AsksFor c.words (Replay schedule turns)
      → (job : Job) (run : machines.Run) (thread : ℕ)
      → LeavesUndone job schedule turns thread run
      → IsDueFor 8 (λ bytes. IsInput bytes job × IsAdmitted job.config) (exit_of c)
  pub replay_due : (schedule : Schedule) (turns : ℕ) → AsksFor c.words (Replay schedule turns)
      → (job : Job)
      → IfSome c.source.bytes (λ bytes. IsInput bytes job × IsAdmitted job.config
      → IsDueOrFails 0 c.exit.due ⊎ (c.exit.due ≡ 8))
  -- As many turns as the bounds of all commands sum up to are enough: for a serial replay, and for
  -- each replay of one thread.
  pub serial_ends : (turns : ℕ) → AsksFor c.words (Replay Serial turns) → (job : Job) → (rate : ℕ)
      → IsRate job.config rate → job_bound job.config rate job.traces ≤ turns
      → IsDueFor 0 (λ bytes. IsInput bytes job × IsAdmitted job.config) (exit_of c)
  pub single_ends : (schedule : Schedule) (turns : ℕ) → AsksFor c.words (Replay schedule turns)
      → (job : Job) → (rate : ℕ) → job.config.threads ≡ 1
      → IsRate job.config rate → job_bound job.config rate job.traces ≤ turns
      → IsDueFor 0 (λ bytes. IsInput bytes job × IsAdmitted job.config) (exit_of c)
  -- What reads no job is done, or the answer is want of memory.
  pub generates : Ask c.words → (AskForJob c.words → ⊥) → (c.exit.due ≡ 0) ⊎ (c.exit.due ≡ 7)
