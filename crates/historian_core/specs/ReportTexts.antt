-- A text of limits and readings: what is written for it, and where the report stops.
use Rattle.std.specs.Prelude.{ℕ, ◌+◌, ◌-◌, ◌/◌, ◌^◌, nat_lt, if◌then◌else◌, List, [], ◌∷◌, ◌++◌, length, Option, None, Some, Result, Ok, Err}
use Rattle.trace_text.specs.Lines.{tokens_of}
use Rattle.trace_text.specs.Reading.{◌>>=◌, number_at, two_tokens_of}
use Rattle.historian_core.specs.declared.Limits.{Limits}
use Rattle.historian_core.specs.declared.stops.Stop.{Stop}
use Rattle.historian_core.specs.declared.stops.Stop.TheVariants.{BadLine, NoLifeLeft}
use Rattle.historian_core.specs.declared.stops.Why.{Why}
use Rattle.historian_core.specs.declared.stops.Why.TheVariants as whys
use Rattle.historian_core.specs.Windows.{told_line}

-- How many readings a heap keeps in its life: as many as its own life has units for, which are
-- 2^45, at 5 for each reading and for each of 12 blocks (`lives_end_with_the_heap`).
abbrev pub life : ℕ
life = 2 ^ 45 / 5 - 12

-- the reading that a line spells: a number below 2^32
unfoldable pub reading_at : List ℕ → Option ℕ
reading_at line = do
  n ← number_at line
  if nat_lt n (2 ^ 32) then Some n else None

-- the limits that a line spells: two such numbers, in any order
unfoldable pub limits_at : List ℕ → Option Limits
limits_at line = do
  p ← two_tokens_of (tokens_of line)
  low ← reading_at p.0
  high ← reading_at p.1
  Some (record { low = low; high = high })

-- the limits that a first line spells, the low one first, or what is wrong with the line
abbrev pub checked : Option Limits → Result Limits Why
checked None = Err whys.Limits
checked (Some l) = if nat_lt l.high l.low then Err whys.Order else Ok l

abbrev pub first_at : List ℕ → Result Limits Why
first_at line = checked (limits_at line)

-- what is written for some lines, and where the report stops, if before their end
pub record Due : Type 0 where
  pub text : List ℕ
  pub stop : Option Stop

-- nothing is written, and the report stops so
abbrev pub stops : Stop → Due
stops stop = record { text = []; stop = Some stop }

-- this text, and then what is due
abbrev pub with_text : List ℕ → Due → Due
with_text text due = record { text = text ++ due.text; stop = due.stop }

-- what is due for a line after these limits and readings, and for the lines after it: the line of
-- its reading, if it spells one and the heap's life has room for it
abbrev pub due_at : Limits → List ℕ → Option ℕ → (List ℕ → Due) → Due
due_at l past None others = stops (BadLine (length past + 2) whys.Reading)
due_at l past (Some r) others =
    if nat_lt (length past) life
    then with_text (told_line l (past ++ r ∷ [])) (others (past ++ r ∷ [])) else stops NoLifeLeft

-- what is due for some lines after these limits and readings
abbrev pub due_after : Limits → List ℕ → List (List ℕ) → Due
due_after l past [] = record { text = []; stop = None }
due_after l past (line ∷ lines) = due_at l past (reading_at line) (λ xs. due_after l xs lines)

-- what is due for the lines after a first line, which has limits or is wrong
abbrev pub due_from : Result Limits Why → List (List ℕ) → Due
due_from (Err why) lines = stops (BadLine 1 why)
due_from (Ok l) lines = due_after l [] lines

-- what is due for the lines of a text
abbrev pub due_in : List (List ℕ) → Due
due_in [] = stops (BadLine 1 whys.Limits)
due_in (first ∷ lines) = due_from (first_at first) lines
