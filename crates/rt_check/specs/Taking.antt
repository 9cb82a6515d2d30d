-- What is known of a line that is looked at, whatever its rate.
use Rattle.std.specs.Prelude.{ℕ, ◌≡◌, List, [], ◌∷◌, ◌++◌, drop, Option, None}
use Rattle.block_store.specs.declared.Config.{Config}
use Rattle.never_heap.specs.declared.Command.{Command}
use Rattle.never_heap.specs.declared.Entry.{Entry}
use Rattle.never_heap.specs.Histories.{HistoryItem, Started, Did}
use Rattle.trace_text.specs.Reading.{number_at}
use Rattle.rt_check.specs.declared.follower.Follower.{Follower}
use Rattle.rt_check.specs.declared.taken.Line.{Line}
use Rattle.rt_check.specs.declared.taken.Line.TheVariants as lines
use Rattle.rt_check.specs.Standing.{Stands}
use Rattle.rt_check.specs.Taken.{IsTaken, IsEnd, IsLeft}

-- the number that the first of some tokens spells
abbrev pub first_number : List (List ℕ) → Option ℕ
first_number [] = None
first_number (token ∷ tokens) = number_at token

-- the number that comes after so many tokens
abbrev pub number_behind : ℕ → List (List ℕ) → Option ℕ
number_behind before tokens = first_number (drop before tokens)

-- what is said of a line after these items, and where the follower then is
abbrev pub SaysTaken :
    Config → List (List Command) → List HistoryItem → List ℕ → Line → Follower → Type 0
SaysTaken c traces past line lines.Start f =
    IsTaken c traces past line Started × Stands c (past ++ Started ∷ []) f
SaysTaken c traces past line (lines.Entry m) f =
    (e : Entry) × IsTaken c traces past line (Did e) × Stands c (past ++ Did e ∷ []) f
    × (m ≡ record { thread = e.thread; command = e.command })
SaysTaken c traces past line lines.Last f = IsEnd traces past line
SaysTaken c traces past line lines.Left f = IsLeft c traces past line
