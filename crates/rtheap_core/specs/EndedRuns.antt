-- An ended run, and its history.
use Rattle.std.specs.Prelude.{ℕ, ◌≡◌, Some, List, map}
use Rattle.atom_board.specs.Mutators.{ClosedState}
use Rattle.never_heap.specs.declared.Entry.{Entry}
use Rattle.never_heap.specs.Histories.{HistoryItem}
use Rattle.never_heap.specs.HistoryOfOrder.{item_of}
use Rattle.heap_system.specs.Machines as machines
use Rattle.heap_system.specs.Systems.{Finish, AllDone}
use Rattle.heap_system.specs.Systems as systems
use Rattle.rtheap_core.specs.declared.schedules.Schedule.{Schedule}
use Rattle.rtheap_core.specs.schedules.Replays.{IsReplayed}
use Rattle.rtheap_core.specs.schedules.Schedules.{turns_of}
use Rattle.atom_board.specs.threaded_runs.EndedRuns as runs
use Rattle.trace_text.specs.Jobs.{Job}
use Rattle.trace_text.specs.OrderTexts.{text_in_order}
use Rattle.trace_text.specs.RunTexts.{text_by_threads}
use Rattle.rtheap_core.specs.declared.exit.RunEnd.{RunEnd}
use Rattle.rtheap_core.specs.declared.exit.RunEnd.TheVariants.{Replayed, Ran}

-- what is left of an ended run: its configuration, the entries of each thread, and how many cycles
-- were started
abbrev pub run_of : RunEnd → ClosedState
run_of (Replayed f) = record { config = f.config; logs = f.logs; cycles = f.cycles }
run_of (Ran f) = record { config = f.config; logs = f.logs; cycles = f.cycles }

-- what an ended run shows: the entries of each thread, how many cycles were started, and how many
-- units were made
abbrev pub logs_of : RunEnd → List (List Entry)
logs_of end = (run_of end).logs

abbrev pub cycles_of : RunEnd → ℕ
cycles_of end = (run_of end).cycles

abbrev pub units_of : RunEnd → ℕ
units_of end = systems.units_of (run_of end).logs

-- the job that it shows
abbrev pub job_of : RunEnd → Job
job_of end = runs.job_of (run_of end)

-- it has a history, which is that of a run of its job
abbrev pub HasHistory : RunEnd → Type 0
HasHistory end = runs.HasHistory (run_of end)

-- how the history of an ended run is written: of threads that ran beside each other by threads, and
-- of a replay in order
abbrev pub text_of : RunEnd → List HistoryItem → List ℕ
text_of (Replayed f) history = text_in_order history
text_of (Ran f) history = text_by_threads f.config.threads history

-- A job replayed to its end: each thread is done after the first turns of the schedule, so many at
-- most, and this is the run of these turns.
pub record EndsIn (job : Job) (schedule : Schedule) (turns : ℕ) (run : machines.Run) : Type 0 where
  pub replayed : IsReplayed job.config job.traces schedule turns run
  pub done : AllDone job.config run.state

-- so is it, and these are the turns of the schedule that were made
pub record EndsBy (job : Job) (schedule : Schedule) (turns : ℕ) (run : machines.Run)
    (made : List ℕ) : Type 0 where
  pub ends : EndsIn job schedule turns run
  pub made_is : made ≡ turns_of schedule job.config ends.replayed.first turns

-- A replay's history is the order of the turns of the schedule: its units are counted over these
-- turns, and the order that was kept is that of the history.
pub record IsReplayOf (schedule : Schedule) (turns : ℕ) (f : Finish)
    (ran : HasHistory (Replayed f)) : Type 0 where
  pub run : machines.Run
  pub by : EndsBy (job_of (Replayed f)) schedule turns run ran.turned.turns
  pub history_is : ran.history ≡ run.order
  pub order : f.order ≡ Some (map item_of ran.history)
