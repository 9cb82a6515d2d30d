-- A script that was run, and what was written of it.
use Rattle.std.specs.Prelude.{ℕ, ◌≡◌, List}
use Rattle.array_scripts.specs.declared.header.Header.{Header}
use Rattle.array_scripts.specs.Answers.{traces_in, answers_in}
use Rattle.array_scripts.specs.ScriptCalls as calls
use Rattle.array_scripts.specs.Kinds.{Kind}
use Rattle.array_scripts.specs.JobsOfScripts.{HasRoom, IsReadAs}
use Rattle.array_scripts.specs.Tellings.{lines_from}
use Rattle.atom_board.specs.Mutators.{ClosedState}
use Rattle.block_store.specs.declared.Config.{Config}
use Rattle.exit_statuses.specs.Exits.{IsWritten}
use Rattle.exit_statuses.specs.Sides.{Sides}
use Rattle.never_heap.specs.declared.Command.{Command}
use Rattle.never_heap.specs.declared.Reply.{Reply}
use Rattle.atom_board.specs.threaded_runs.EndedRuns.{HasHistory, job_of}
use Rattle.array_scripts.specs.declared.script_runs.exit.ScriptExit.{ScriptExit}

-- a run is of the job that scripts make on this heap
abbrev pub IsRunOf :
    {Op : Type 0} → (ℕ → List Op → List Command) → Config → List (List Op) → ClosedState → Type 0
IsRunOf commands config scripts run =
    job_of run ≡ record { config = config; traces = traces_in commands scripts }

-- The script that a source has was run, on a heap that has a rate, and the run has a history.
pub record HasScript {Op : Type 0} (kind : Kind Op) (commands : ℕ → List Op → List Command)
    (source : Sides) (run : ClosedState) : Type 0 where
  pub header : Header
  pub scripts : List (List Op)
  pub read : IsReadAs kind source header scripts
  pub room : HasRoom kind header
  pub job : IsRunOf commands (kind.config_of header) scripts run
  pub ran : HasHistory run

module _ {Op T : Type 0} (kind : Kind Op) (commands : ℕ → List Op → List Command)
    (told : ℕ → List Op → List Reply → List T) where
  -- and these are the answers of its operations, by the logs
  abbrev pub HasAnswers : Sides → ClosedState → List (List T) → Type 0
  HasAnswers source run answers =
      (script : HasScript kind commands source run)
      × (answers ≡ answers_in told script.scripts run.logs)

  -- and they were written
  pub record IsAnswered (text : T → List ℕ) (source sink : Sides) (status : ℕ)
      (run : ClosedState) : Type 0 where
    pub script : HasScript kind commands source run
    pub lines : IsWritten sink status
        (lines_from text 0 (answers_in told script.scripts run.logs))

  -- a call of the program of this name did what it is to do, whatever it was given
  abbrev pub IsCarriedOut :
      (T → List ℕ) → List ℕ → List (List ℕ) → Sides → Sides → ScriptExit → Type 0
  IsCarriedOut text name words source sink x =
      calls.IsCarriedOut kind name (IsAnswered text source sink x.status) words source sink
      x.status x.due x.run
