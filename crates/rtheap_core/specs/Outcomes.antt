-- What became of a task before anything was written.
use Rattle.std.specs.Prelude.{ℕ, ◌≡◌, ◌≤◌, Some, List, map}
use Rattle.exit_statuses.specs.Sides.{Sides}
use Rattle.never_heap.specs.declared.Item.{Item}
use Rattle.never_heap.specs.Histories.{starts_in, work_in}
use Rattle.never_heap.specs.HistoryOfOrder.{item_of, IsHistoryOf}
use Rattle.heap_system.specs.Machines as machines
use Rattle.heap_system.specs.Serials.{job_bound}
use Rattle.heap_system.specs.Systems.{Finish}
use Rattle.rate_plan.specs.Rates.{IsAdmitted, IsRate}
use Rattle.rtheap_core.specs.declared.schedules.Schedule.{Schedule}
use Rattle.rtheap_core.specs.declared.schedules.Schedule.TheVariants.{Serial}
use Rattle.atom_board.specs.threaded_runs.EndedRuns.{HasOwnTurns}
use Rattle.trace_text.specs.Jobs.{Job}
use Rattle.trace_text.specs.OrderTexts.{IsOrderOf}
use Rattle.rtheap_core.specs.declared.exit.RunEnd.{RunEnd}
use Rattle.rtheap_core.specs.declared.exit.RunEnd.TheVariants.{Replayed}
use Rattle.exit_statuses.specs.declared.refusal.Refusal.{Refusal}
use Rattle.exit_statuses.specs.declared.refusal.Refusal.TheVariants.{OutOfMemory, TurnsUsed}
use Rattle.rtheap_core.specs.declared.trial.Totals.{Totals}
use Rattle.rtheap_core.specs.EndedRuns.{HasHistory, EndsIn, IsReplayOf, run_of, job_of}
use Rattle.rtheap_core.specs.Exits.{IsReadAs}
use Rattle.rtheap_core.specs.Refusals.{LeavesUndone}

-- the job that was read was run
pub record HasRun (source : Sides) (end : RunEnd) : Type 0 where
  pub read : IsReadAs source (job_of end)
  pub admitted : IsAdmitted (job_of end).config
  pub ran : HasHistory end
  pub turns : HasOwnTurns (run_of end) ran

-- a replay with its history, which is that of the order that was kept
pub record IsReplayShown (schedule : Schedule) (turns : ℕ) (f : Finish) : Type 0 where
  pub ran : HasHistory (Replayed f)
  pub replay : IsReplayOf schedule turns f ran
  pub told : IsHistoryOf (map item_of ran.history) f.logs ran.history

-- an order was kept, and is one of the logs
pub record HasOrder (f : Finish) : Type 0 where
  pub order : List Item
  pub kept : f.order ≡ Some order
  pub fits : IsOrderOf order f.logs

-- the job that was read was replayed
pub record HasReplay (source : Sides) (schedule : Schedule) (turns : ℕ) (f : Finish)
    : Type 0 where
  pub read : IsReadAs source (job_of (Replayed f))
  pub admitted : IsAdmitted (job_of (Replayed f)).config
  pub replayed : IsReplayShown schedule turns f

-- why a job was not replayed to its end: there was no room, or its turns leave a thread undone
abbrev pub IsReplayFault : Job → Schedule → ℕ → Refusal → Type 0
IsReplayFault job schedule turns OutOfMemory = Unit {0}
IsReplayFault job schedule turns (TurnsUsed thread) =
    (run : machines.Run) × LeavesUndone job schedule turns thread run
IsReplayFault job schedule turns refusal = ⊥

-- the rate is that of the job that was read
pub record HasRate (source : Sides) (rate : ℕ) : Type 0 where
  pub job : Job
  pub read : IsReadAs source job
  pub admitted : IsAdmitted job.config
  pub is_rate : IsRate job.config rate

-- a job was done by serial turns, with these totals
pub record HasTotals (job : Job) (totals : Totals) : Type 0 where
  pub turns : ℕ
  pub few : (rate : ℕ) → IsRate job.config rate → turns ≤ job_bound job.config rate job.traces
  pub run : machines.Run
  pub ends : EndsIn job Serial turns run
  pub cycles : totals.cycles ≡ starts_in run.order
  pub units : totals.units ≡ work_in run.order
