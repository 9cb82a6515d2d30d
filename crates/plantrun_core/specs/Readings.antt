-- What two words spell, and what a line of the input does.
use Rattle.std.specs.Prelude.{ℕ, ◌+◌, ◌*◌, ◌<◌, ◌≤◌, ◌≡◌, ◌^◌, ◌==◌, ◌&&◌, nat_lt, nat_le, if◌then◌else◌, List, [], ◌∷◌, ◌++◌, length, Option, Some, None, IfSome, Result, Ok, Err}
use Rattle.trace_text.specs.Faults.{Rose}
use Rattle.trace_text.specs.Lines.{lines_of, tokens_of}
use Rattle.trace_text.specs.Reading.{◌>>=◌, number_at, four_tokens_of}
use Rattle.trace_text.specs.short_lines.Found.{IsCut}
use Rattle.array_tables.specs.declared.tag_table.operation.Operation.{Operation}
use Rattle.array_tables.specs.declared.tag_table.operation.Operation.TheVariants.{Write}
use Rattle.plantrun_core.specs.declared.readings.Reading.{Reading}
use Rattle.plantrun_core.specs.declared.stops.Stop.{Stop}
use Rattle.plantrun_core.specs.declared.stops.Stop.TheVariants.{BadLine, TooMany, ReadFault, NoMemory}
use Rattle.plantrun_core.specs.declared.plans.Plan.{Plan}
use Rattle.plantrun_core.specs.Roles.{word}

-- a plan of two words: the ticks, and the microseconds from one to the next
unfoldable pub plan_at : List (List ℕ) → Option Plan
plan_at (ticks ∷ period ∷ []) = do
  t ← number_at ticks
  p ← number_at period
  if nat_le t (2 ^ 20) && nat_le p 1000000 then Some (record { ticks = t; period = p }) else None
plan_at _ = None

-- the reading that four numbers with one space between them spell: its tick, its tag, its value, and
-- 1 if it is good, else 0
unfoldable pub spelled_at : List ℕ → Option Reading
spelled_at line = do
  p ← four_tokens_of (tokens_of line)
  tick ← number_at p.0
  tag ← number_at p.1
  value ← number_at p.2
  good ← number_at p.3
  if nat_lt tag 9 && nat_lt value (2 ^ 32) && nat_lt good 2
      then Some (record { tick = tick; tag = tag; value = value; good = good == 1 }) else None

-- the reading that a line of fewer than 40 bytes spells; a longer one spells none
abbrev pub reading_at : List ℕ → Option Reading
reading_at line = if nat_lt (length line) 40 then spelled_at line else None

-- each of these lines spells one of these readings, at a tick of the plant
abbrev pub AreDue : ℕ → List (List ℕ) → List Reading → Type 0
AreDue ticks [] [] = Unit {0}
AreDue ticks (line ∷ lines) (r ∷ rs) =
    (reading_at line ≡ Some r) × (r.tick < ticks) × AreDue ticks lines rs
AreDue ticks _ _ = ⊥

-- the operations of readings, which are in the lines from this number on
abbrev pub puts : ℕ → List Reading → List Operation
puts n [] = []
puts n (r ∷ rs) = Write r.tag r.value (word n r.good) ∷ puts (n + 1) rs

-- how many readings a plant of so many ticks takes
abbrev pub room : ℕ → ℕ
room ticks = 2 * ticks + 64

-- no line is here, or one of a reading at a later tick than the plant has
abbrev pub IsPastEnd : ℕ → List (List ℕ) → Type 0
IsPastEnd ticks [] = Unit {0}
IsPastEnd ticks (line ∷ lines) = (r : Reading) × (reading_at line ≡ Some r) × (ticks ≤ r.tick)

-- The text was taken to its end: its first lines spell these readings, and after them it ends, or a
-- reading has a later tick than the plant.
pub record IsTaken (ticks : ℕ) (bytes : List ℕ) (rs : List Reading) : Type 0 where
  pub done : List (List ℕ)
  pub others : List (List ℕ)
  pub split : lines_of bytes ≡ done ++ others
  pub due : AreDue ticks done rs
  pub few : length rs ≤ room ticks
  pub end : IsPastEnd ticks others

-- line k of the text, from 1, is the first that spells no reading
pub record IsBadAt (ticks : ℕ) (bytes : List ℕ) (k : ℕ) : Type 0 where
  pub rs : List Reading
  pub done : List (List ℕ)
  pub line : List ℕ
  pub others : List (List ℕ)
  pub split : lines_of bytes ≡ done ++ line ∷ others
  pub due : AreDue ticks done rs
  pub few : length rs ≤ room ticks
  pub none : reading_at line ≡ None
  pub number : k ≡ length rs + 1

-- the text has one reading more than there is room for
pub record HasTooMany (ticks : ℕ) (bytes : List ℕ) : Type 0 where
  pub rs : List Reading
  pub done : List (List ℕ)
  pub others : List (List ℕ)
  pub split : lines_of bytes ≡ done ++ others
  pub due : AreDue ticks done rs
  pub many : length rs ≡ room ticks + 1

-- the source failed within the line after these readings
pub record FailsBehind (ticks : ℕ) (bytes : List ℕ) (left : Option (List ℕ)) : Type 0 where
  pub rs : List Reading
  pub done : List (List ℕ)
  pub rest : List ℕ
  pub split : lines_of bytes ≡ done ++ lines_of rest
  pub due : AreDue ticks done rs
  pub few : length rs ≤ room ticks
  pub cut : IsCut rest left

-- The cause of each stop, where the source had these bytes and has those left. Want of memory has
-- none.
abbrev pub IsStop : ℕ → Option (List ℕ) → Option (List ℕ) → Stop → Type 0
IsStop ticks all left (BadLine k) = IfSome all (λ bytes. IsBadAt ticks bytes k)
IsStop ticks all left TooMany = IfSome all (λ bytes. HasTooMany ticks bytes)
IsStop ticks all left ReadFault = IfSome all (λ bytes. FailsBehind ticks bytes left)
IsStop ticks all left NoMemory = Unit {0}

-- the first line spells this reading, and what is left are the lines after it
pub record Spells (r : Reading) (bytes : List ℕ) (left : Option (List ℕ)) : Type 0 where
  pub line : List ℕ
  pub rest : List ℕ
  pub lines : lines_of bytes ≡ line ∷ lines_of rest
  pub spelled : reading_at line ≡ Some r
  pub now : left ≡ Some rest

-- the first line spells no reading
pub record SpellsNone (bytes : List ℕ) : Type 0 where
  pub line : List ℕ
  pub others : List (List ℕ)
  pub lines : lines_of bytes ≡ line ∷ others
  pub spelled : reading_at line ≡ None

-- the result of reading the line of this number
abbrev pub IsNext : ℕ → List ℕ → Option (List ℕ) → ℕ → Result (Option Reading) Stop → Type 0
IsNext ticks bytes left number (Ok (Some r)) = Spells r bytes left × (r.tick < ticks)
IsNext ticks bytes left number (Ok None) = IsPastEnd ticks (lines_of bytes)
IsNext ticks bytes left number (Err (BadLine k)) = (k ≡ number) × SpellsNone bytes
IsNext ticks bytes left number (Err ReadFault) = IsCut bytes left
IsNext ticks bytes left number (Err _) = ⊥

-- how many faults the source has counted after that line
abbrev pub CountsNext : ℕ → ℕ → Result (Option Reading) Stop → Type 0
CountsNext old new (Ok next) = new ≡ old
CountsNext old new (Err (BadLine k)) = new ≡ old
CountsNext old new (Err ReadFault) = Rose old new
CountsNext old new (Err _) = ⊥

-- how many faults the source has counted when a plant has ended
abbrev pub CountsRead : {X : Type 0} → ℕ → ℕ → Result X Stop → Type 0
CountsRead old new (Err ReadFault) = Rose old new
CountsRead old new r = new ≡ old
