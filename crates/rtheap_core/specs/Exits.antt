-- What the top call answers.
use Rattle.std.specs.Prelude.{ℕ, ◌≡◌, ◌≤◌, false, List, [], ◌∷◌, ◌++◌, codes, decimal, All}
use Rattle.exit_statuses.specs.Exits.{IsWritten}
use Rattle.exit_statuses.specs.Refusals.{IsReadWhole}
use Rattle.exit_statuses.specs.Sides.{Sides}
use Rattle.never_heap.specs.declared.Entry.{Entry}
use Rattle.never_heap.specs.Histories.{is_full, starts_in, work_in}
use Rattle.never_heap.specs.Licensed.{StartsSmall}
use Rattle.heap_system.specs.Machines as machines
use Rattle.heap_system.specs.Serials.{job_bound}
use Rattle.rate_plan.specs.Rates.{IsAdmitted, IsRate}
use Rattle.rtheap_core.specs.declared.schedules.Schedule.{Schedule}
use Rattle.rtheap_core.specs.declared.schedules.Schedule.TheVariants.{Serial}
use Rattle.atom_board.specs.threaded_runs.EndedRuns.{HasOwnTurns}
use Rattle.trace_text.specs.Jobs.{Job, IsJob, input_limit}
use Rattle.trace_text.specs.Lines.{line_feed}
use Rattle.trace_text.specs.RunTexts.{totals_line}
use Rattle.rtheap_core.specs.declared.exit.RunEnd.{RunEnd}
use Rattle.rtheap_core.specs.declared.exit.RunEnd.TheVariants.{Replayed, Ran}
use Rattle.rtheap_core.specs.EndedRuns.{HasHistory, EndsIn, IsReplayOf, run_of, job_of, logs_of, text_of}
use Rattle.rtheap_core.specs.Generated.{generated_job}

-- a text was read that is this job
pub record IsReadAs (source : Sides) (job : Job) : Type 0 where
  pub text : List ℕ
  pub whole : IsReadWhole input_limit source text
  pub is_job : IsJob text job

-- The headline. There is one history: its replies, thread by thread in trace order, are those of
-- the logs, and they are those of a heap that never frees, but for the fulls, each of which is
-- licensed. The job that was run is the input, the logs, cycles and units are those that the ended
-- run shows, and the history's text is what was written.
pub record Headline (source sink : Sides) (status : ℕ) (end : RunEnd) : Type 0 where
  pub read : IsReadAs source (job_of end)
  pub admitted : IsAdmitted (job_of end).config
  pub ran : HasHistory end
  pub text : IsWritten sink status (text_of end ran.history)

-- no entry of these logs is answered full
abbrev pub NoneFull : List (List Entry) → Type 0
NoneFull logs = All (All (λ (e : Entry). is_full e.reply ≡ false)) logs

-- The headline holds, and where each cycle of its history began with at most L live blocks, no
-- entry of the logs is answered full.
abbrev pub NeverFull : Sides → Sides → ℕ → RunEnd → Type 0
NeverFull source sink status end = (h : Headline source sink status end)
    × (StartsSmall (job_of end).config h.ran.history → NoneFull (logs_of end))

-- a rate's line
abbrev pub rate_text : ℕ → List ℕ
rate_text rate = codes "rate " ++ decimal rate ++ line_feed ∷ []

-- the rate of the input's configuration was written
pub record Planned (source sink : Sides) (status : ℕ) : Type 0 where
  pub job : Job
  pub read : IsReadAs source job
  pub admitted : IsAdmitted job.config
  pub rate : ℕ
  pub is_rate : IsRate job.config rate
  pub text : IsWritten sink status (rate_text rate)

-- the headline holds of a replay, and its history is that of the first turns of the schedule
abbrev pub IsReplay : Sides → Sides → ℕ → Schedule → ℕ → RunEnd → Type 0
IsReplay source sink status schedule turns (Replayed f) =
    (h : Headline source sink status (Replayed f)) × IsReplayOf schedule turns f h.ran
IsReplay source sink status schedule turns (Ran f) = ⊥

-- the headline holds of threads that ran beside each other, and the turns of its history are theirs
abbrev pub IsOfThreads : Sides → Sides → ℕ → RunEnd → Type 0
IsOfThreads source sink status (Replayed f) = ⊥
IsOfThreads source sink status (Ran f) =
    (h : Headline source sink status (Ran f)) × HasOwnTurns (run_of (Ran f)) h.ran

-- The generated job was done by serial turns, no more than the bounds of all commands sum up to,
-- and the last line of its text was written.
pub record Tried (sink : Sides) (status key lines : ℕ) : Type 0 where
  pub turns : ℕ
  pub few : (rate : ℕ) → IsRate (generated_job key lines).config rate
      → turns ≤ job_bound (generated_job key lines).config rate (generated_job key lines).traces
  pub run : machines.Run
  pub ends : EndsIn (generated_job key lines) Serial turns run
  pub text : IsWritten sink status (totals_line (starts_in run.order) (work_in run.order))
