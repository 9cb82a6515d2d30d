-- How a report of a text ends, and the cause of each end but success.
use Rattle.std.specs.Prelude.{ℕ, ◌≡◌, ◌<◌, ◌≤◌, ◌⊎◌, ◌++◌, List, [], ◌∷◌, length, Option, None, Some, Result, Ok, Err}
use Rattle.trace_text.specs.Faults.{Rose}
use Rattle.trace_text.specs.Lines.{lines_of}
use Rattle.trace_text.specs.Streams.{Appends, AppendsPrefix}
use Rattle.trace_text.specs.short_lines.Found.{IsCut}
use Rattle.historian_core.specs.declared.Limits.{Limits}
use Rattle.historian_core.specs.declared.stops.Stop.{Stop}
use Rattle.historian_core.specs.declared.stops.Stop.TheVariants.{ReadFault, WriteFault}
use Rattle.historian_core.specs.ReportTexts.{Due, life, reading_at, limits_at}
use Rattle.historian_core.specs.Windows.{told_lines}

-- The source failed: these lines were read and reported. Some bytes of the next line may be lost.
pub record FailsAfter (due : List (List ℕ) → Due) (bytes : List ℕ)
    (left held held_now : Option (List ℕ)) : Type 0 where
  pub lines : List (List ℕ)
  pub rest : List ℕ
  pub split : lines_of bytes ≡ lines ++ lines_of rest
  pub fine : (lines ≡ []) ⊎ ((due lines).stop ≡ None)
  pub told : Appends held held_now (due lines).text
  pub cut : IsCut rest left

-- What is left of a text and what the sink holds, for each result, by what is due for its lines.
-- Where no stream fails, each text has one result. Where the sink fails, something is due, and a
-- prefix of it is written.
abbrev pub IsReport : (List (List ℕ) → Due) → List ℕ → Option (List ℕ) → Option (List ℕ)
    → Option (List ℕ) → Result (Unit {0}) Stop → Type 0
IsReport due bytes left held held_now (Ok done) =
    ((due (lines_of bytes)).stop ≡ None) × (left ≡ Some [])
    × Appends held held_now (due (lines_of bytes)).text
IsReport due bytes left held held_now (Err ReadFault) =
    FailsAfter due bytes left held held_now
IsReport due bytes left held held_now (Err WriteFault) =
    (0 < length (due (lines_of bytes)).text)
    × AppendsPrefix held held_now (due (lines_of bytes)).text
IsReport due bytes left held held_now (Err stop) =
    ((due (lines_of bytes)).stop ≡ Some stop)
    × Appends held held_now (due (lines_of bytes)).text

-- these lines spell these readings
abbrev pub AreReadings : List (List ℕ) → List ℕ → Type 0
AreReadings [] [] = Unit {0}
AreReadings (line ∷ lines) (x ∷ xs) = (reading_at line ≡ Some x) × AreReadings lines xs
AreReadings _ _ = ⊥

-- a text of limits, the low one first, and of readings for which the heap's life has room
pub record IsFineText (bytes : List ℕ) (l : Limits) (xs : List ℕ) : Type 0 where
  pub first : List ℕ
  pub others : List (List ℕ)
  pub lines : lines_of bytes ≡ first ∷ others
  pub limits : limits_at first ≡ Some l
  pub in_order : l.low ≤ l.high
  pub readings : AreReadings others xs
  pub few : length xs ≤ life

-- the lines of these readings are written, unless a stream failed
abbrev pub IsToldOrFails : Limits → List ℕ → Option (List ℕ) → Option (List ℕ)
    → Result (Unit {0}) Stop → Type 0
IsToldOrFails l xs held held_now (Ok done) = Appends held held_now (told_lines l [] xs)
IsToldOrFails l xs held held_now (Err ReadFault) = Unit {0}
IsToldOrFails l xs held held_now (Err WriteFault) = Unit {0}
IsToldOrFails l xs held held_now (Err _) = ⊥

-- Which faults the source and the sink have counted: a fault is reported exactly where its stream
-- counted one.
abbrev pub AreCounted : ℕ → ℕ → ℕ → ℕ → Result (Unit {0}) Stop → Type 0
AreCounted read read_now written written_now (Err ReadFault) =
    Rose read read_now × (written_now ≡ written)
AreCounted read read_now written written_now (Err WriteFault) =
    (read_now ≡ read) × Rose written written_now
AreCounted read read_now written written_now r = (read_now ≡ read) × (written_now ≡ written)
