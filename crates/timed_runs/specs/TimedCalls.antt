-- What the call of a timed run is, and how it ends.
use Rattle.std.specs.Prelude.{ℕ, ◌⊎◌, List, [], ◌∷◌, codes, if◌then◌else◌, Option, None, Some}
use Rattle.std.specs.Str.{bytes_eq}
use Rattle.exit_statuses.specs.Exits.{IsToldBy}
use Rattle.exit_statuses.specs.Sides.{Sides}
use Rattle.timed_runs.specs.declared.telling.Form.{Form}
use Rattle.timed_runs.specs.declared.telling.Form.TheVariants.{Table, Csv}
use Rattle.rtheap_core.specs.declared.exit.RunEnd.{RunEnd}
use Rattle.rtheap_core.specs.declared.exit.RunEnd.TheVariants.{Replayed, Ran}

-- the form of the report that the words ask for: a table where there are none, and comma separated
-- values where there is `--csv` alone
abbrev pub form_asked : List (List ℕ) → Option Form
form_asked [] = Some Table
form_asked (w ∷ []) = if bytes_eq w (codes "--csv") then Some Csv else None
form_asked (w ∷ v ∷ ws) = None

-- the words of the run that is timed: `run` where a report is asked for, and else none
abbrev pub words_for : Option Form → List (List ℕ)
words_for (Some form) = codes "run" ∷ []
words_for None = []

abbrev pub run_words : List (List ℕ) → List (List ℕ)
run_words words = words_for (form_asked words)

-- a sink that tells nothing, and has no fault
abbrev pub silent : Sides
silent = record {
  bytes = None;
  bytes_now = None;
  faults = 0;
  faults_now = 0;
}

-- the report of the times was written, with status 0, or there was no memory for it, with 7; or the
-- writing failed, with 6
abbrev pub IsReported : Sides → ℕ → Type 0
IsReported sink status = IsToldBy sink status 0 ⊎ IsToldBy sink status 7

-- How a call ended: threads that ran to their end are reported, and of anything else the status is
-- that of the run, or 6.
abbrev pub IsTimed : Sides → Option RunEnd → ℕ → ℕ → Type 0
IsTimed sink (Some (Ran f)) own status = IsReported sink status
IsTimed sink (Some (Replayed f)) own status = IsToldBy sink status own
IsTimed sink None own status = IsToldBy sink status own
