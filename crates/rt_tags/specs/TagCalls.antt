-- A call, and what is promised of it.
use Rattle.std.specs.Prelude.{ℕ, ◌≡◌, List, codes}
use Rattle.array_scripts.specs.declared.header.Header.{Header}
use Rattle.array_scripts.specs.ScriptCalls as calls
use Rattle.array_scripts.specs.JobsOfScripts.{HasRoom, IsReadAs}
use Rattle.array_scripts.specs.Tellings.{lines_from}
use Rattle.atom_board.specs.Mutators.{ClosedState}
use Rattle.exit_statuses.specs.Exits.{IsWritten}
use Rattle.exit_statuses.specs.Sides.{Sides}
use Rattle.never_heap.specs.Licensed.{NoFulls}
use Rattle.array_tables.specs.operations.Linearizations.{Call, IsLinearization}
use Rattle.array_tables.specs.declared.tag_table.operation.Operation.{Operation}
use Rattle.array_tables.specs.tag_table.Tables.{Tag, answer, table_after, empty_table, rows_of, decides, ends}
use Rattle.atom_board.specs.threaded_runs.EndedRuns.{HasHistory, job_of}
use Rattle.rt_tags.specs.declared.exit.TagExit.{TagExit}
use Rattle.rt_tags.specs.Lines.{tag_kind}
use Rattle.rt_tags.specs.Scripts.{job_of_script}
use Rattle.rt_tags.specs.Tellings.{tag_text, answers_from}

-- The table of a script was kept by a run of its job: the run has a history, and the history a
-- linearization. No allocation of it was answered full.
pub record HasTable (source : Sides) (run : ClosedState) : Type 0 where
  pub header : Header
  pub scripts : List (List Operation)
  pub read : IsReadAs tag_kind source header scripts
  pub room : HasRoom tag_kind header
  pub job : job_of run ≡ job_of_script header scripts
  pub ran : HasHistory run
  pub order : List (Call Operation Tag)
  pub linear : IsLinearization rows_of decides ends answer table_after (empty_table header.places)
      scripts ran.history order
  pub none_full : NoFulls ran.history

-- The theorem: the lines written are the table's answers in the order of that linearization.
pub record Headline (source sink : Sides) (status : ℕ) (run : ClosedState) : Type 0 where
  pub table : HasTable source run
  pub text : IsWritten sink status
      (lines_from tag_text 0 (answers_from table.header.threads table.order))

-- a call did what it is to do, whatever it was given: a run that is shown kept the script's table
abbrev pub IsCarriedOut : List (List ℕ) → Sides → Sides → TagExit → Type 0
IsCarriedOut words source sink x =
    calls.IsCarriedOut tag_kind (codes "rt_tags") (Headline source sink x.status) words source sink
    x.status x.due x.run
