-- What is read from one line of a text.
use Rattle.std.specs.Prelude.{ℕ, ◌≡◌, List, [], ◌∷◌, Option, None, Some, Result, Ok, Err}
use Rattle.trace_text.specs.Faults.{Rose}
use Rattle.trace_text.specs.Lines.{lines_of}
use Rattle.trace_text.specs.short_lines.Found.{IsCut}
use Rattle.historian_core.specs.declared.Limits.{Limits}
use Rattle.historian_core.specs.declared.stops.Stop.{Stop}
use Rattle.historian_core.specs.declared.stops.Stop.TheVariants.{ReadFault, WriteFault}
use Rattle.historian_core.specs.ReportTexts.{Due, stops, reading_at, first_at, due_after, due_in}

-- the first line spells this, and what is left are the lines after it
pub record Spells {X : Type 0} (at : List ℕ → X) (x : X) (bytes : List ℕ)
    (left : Option (List ℕ)) : Type 0 where
  pub line : List ℕ
  pub rest : List ℕ
  pub lines : lines_of bytes ≡ line ∷ lines_of rest
  pub spelled : at line ≡ x
  pub now : left ≡ Some rest

-- the report of these bytes ends here, and writes nothing more
abbrev pub EndsHere : (List (List ℕ) → Due) → List ℕ → Option (List ℕ)
    → Result (Unit {0}) Stop → Type 0
EndsHere due bytes left (Ok done) =
    (due (lines_of bytes) ≡ record { text = []; stop = None }) × (left ≡ Some [])
EndsHere due bytes left (Err ReadFault) = IsCut bytes left
EndsHere due bytes left (Err WriteFault) = ⊥
EndsHere due bytes left (Err stop) = due (lines_of bytes) ≡ stops stop

-- the result of reading the limits
abbrev pub IsFirstLine : List ℕ → Option (List ℕ) → Result Limits Stop → Type 0
IsFirstLine bytes left (Ok l) = Spells first_at (Ok l) bytes left
IsFirstLine bytes left (Err stop) = EndsHere due_in bytes left (Err stop)

-- a reading that was read after these limits and readings, or the result of the report
abbrev pub IsNextLine : Limits → List ℕ → List ℕ → Option (List ℕ)
    → Result ℕ (Result (Unit {0}) Stop) → Type 0
IsNextLine l past bytes left (Ok r) = Spells reading_at (Some r) bytes left
IsNextLine l past bytes left (Err end) = EndsHere (due_after l past) bytes left end

-- how many faults the source has counted then
abbrev pub CountsRead : {X : Type 0} → ℕ → ℕ → Result X Stop → Type 0
CountsRead old new (Err ReadFault) = Rose old new
CountsRead old new (Err WriteFault) = ⊥
CountsRead old new r = new ≡ old

abbrev pub CountsNext : ℕ → ℕ → Result ℕ (Result (Unit {0}) Stop) → Type 0
CountsNext old new (Ok r) = new ≡ old
CountsNext old new (Err end) = CountsRead old new end
