-- An ended run of a job, and its history.
use Rattle.std.specs.Prelude.{ℕ, ◌-◌, ◌*◌, ◌≡◌, ◌≤◌, List, map}
use Rattle.atom_board.specs.Mutators.{ClosedState}
use Rattle.never_heap.specs.declared.Command.{Command}
use Rattle.never_heap.specs.declared.Entry.{Entry}
use Rattle.never_heap.specs.GivenBlocks.{given}
use Rattle.never_heap.specs.Histories.{HistoryItem, parts, starts_in, work_in}
use Rattle.never_heap.specs.Licensed.{StartsSmall, NoFulls}
use Rattle.never_heap.specs.Runs.{IsRun}
use Rattle.rate_plan.specs.Rates.{IsRate}
use Rattle.heap_invariant.specs.cycle_tally.TallyInvariant.{most_given}
use Rattle.heap_system.specs.Serials.{AreOfThreads, AreFew}
use Rattle.heap_system.specs.Systems.{IsFinished, units_of}
use Rattle.trace_text.specs.Jobs.{Job}

-- the commands of a log
abbrev pub commands_of : List Entry → List Command
commands_of log = map (λ (e : Entry). e.command) log

-- the job that an ended run shows: its configuration, and the commands of its logs
abbrev pub job_of : ClosedState → Job
job_of run = record { config = run.config; traces = map commands_of run.logs }

-- An ended run has a history: a run of its job, at the rate of its configuration. It is the order
-- of one list of turns of the machine over that job, after which each thread is done: its starts
-- and the events that decide its entries are those of that list, and the work of each entry is the
-- number of units that the turns of its own command made. The logs, cycles and units that the run
-- shows are those of the history. Where each cycle of the history began with at most L live blocks,
-- none of its commands was answered full. In no cycle are more blocks given than two units for each
-- block pay for, and one object of each thread. The units of C cycles on m blocks are at least
-- (C - 1) m and at most 2 m C.
pub record HasHistory (run : ClosedState) : Type 0 where
  pub rate : ℕ
  pub is_rate : IsRate (job_of run).config rate
  pub history : List HistoryItem
  pub is_run : IsRun (job_of run).config rate (job_of run).traces history
  pub turned : IsFinished (job_of run).config (job_of run).traces run.logs run.cycles
  pub same : history ≡ turned.run.order
  pub parts_logged : parts (job_of run).config.threads history ≡ run.logs
  pub starts_counted : starts_in history ≡ run.cycles
  pub work_counted : work_in history ≡ units_of run.logs
  pub none_full : StartsSmall (job_of run).config history → NoFulls history
  pub few_given : (z : ℕ) → z ≤ starts_in history
      → given (job_of run).config.width history z ≤ most_given (job_of run).config rate
  pub least_units : (run.cycles - 1) * (job_of run).config.blocks ≤ units_of run.logs
  pub most_units : units_of run.logs ≤ 2 * (job_of run).config.blocks * run.cycles

-- The turns of its history are those of its threads alone, and where there is one thread they are
-- at most as many as the bounds of its commands sum up to.
pub record HasOwnTurns (run : ClosedState) (ran : HasHistory run) : Type 0 where
  pub own : AreOfThreads (job_of run).config ran.turned.turns
  pub few : AreFew (job_of run).config (job_of run).traces ran.turned.turns

abbrev pub HasTurns : ClosedState → Type 0
HasTurns run = (ran : HasHistory run) × HasOwnTurns run ran
