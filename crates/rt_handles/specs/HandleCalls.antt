-- A call, and what is promised of it.
use Rattle.std.specs.Prelude.{ℕ, ◌≡◌, List, codes}
use Rattle.array_scripts.specs.declared.header.Header.{Header}
use Rattle.array_scripts.specs.ScriptCalls as calls
use Rattle.array_scripts.specs.JobsOfScripts.{HasRoom, IsReadAs}
use Rattle.array_scripts.specs.Tellings.{lines_from}
use Rattle.atom_board.specs.Mutators.{ClosedState}
use Rattle.exit_statuses.specs.Exits.{IsWritten}
use Rattle.exit_statuses.specs.Sides.{Sides}
use Rattle.never_heap.specs.Licensed.{NoFulls}
use Rattle.array_tables.specs.operations.Linearizations.{Call, IsLinearization}
use Rattle.array_tables.specs.declared.handle_table.operation.Operation.{Operation}
use Rattle.array_tables.specs.handle_table.Fates.{ShowMakes, TellFates}
use Rattle.array_tables.specs.handle_table.Handles.{Deed, Answer, all_deeds, answer, slots_after, empty_slots, rows_of, decides, ends}
use Rattle.atom_board.specs.threaded_runs.EndedRuns.{HasHistory, job_of}
use Rattle.rt_handles.specs.declared.exit.HandleExit.{HandleExit}
use Rattle.rt_handles.specs.Lines.{handle_kind}
use Rattle.rt_handles.specs.Scripts.{job_of_script}
use Rattle.rt_handles.specs.Tellings.{outcome_text, outcomes_from}

-- The slots of a script were kept by a run of its job: the run has a history, and the history a
-- linearization. No allocation of it was answered full.
pub record HasSlots (source : Sides) (run : ClosedState) : Type 0 where
  pub header : Header
  pub scripts : List (List Operation)
  pub read : IsReadAs handle_kind source header scripts
  pub room : HasRoom handle_kind header
  pub job : job_of run ≡ job_of_script header scripts
  pub ran : HasHistory run
  pub order : List (Call Deed Answer)
  pub linear : IsLinearization rows_of decides ends answer slots_after (empty_slots header.places)
      (all_deeds 0 scripts) ran.history order
  pub none_full : NoFulls ran.history

-- The theorem: the lines written are the slots' answers in the order of that linearization. In it a
-- handle that is shown is of its own make, which filled that slot before, and has its number; and a
-- handle is stale exactly where its make was answered taken, or where it was dropped or evicted.
pub record Headline (source sink : Sides) (status : ℕ) (run : ClosedState) : Type 0 where
  pub slots : HasSlots source run
  pub text : IsWritten sink status
      (lines_from outcome_text 0 (outcomes_from slots.header.threads slots.order))
  pub shown : ShowMakes slots.order
  pub stale : TellFates slots.order

-- a call did what it is to do, whatever it was given: a run that is shown kept the script's slots
abbrev pub IsCarriedOut : List (List ℕ) → Sides → Sides → HandleExit → Type 0
IsCarriedOut words source sink x =
    calls.IsCarriedOut handle_kind (codes "rt_handles") (Headline source sink x.status) words source
    sink x.status x.due x.run
