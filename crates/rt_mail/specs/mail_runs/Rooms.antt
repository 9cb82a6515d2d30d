-- How much room the letters of a job take.
use Rattle.std.specs.Prelude.{ℕ, ◌+◌, List, [], ◌∷◌, max}
use Rattle.never_heap.specs.declared.Command.{Command}
use Rattle.rt_mail.specs.said_numbers.Said.{says_in}

-- how many `say` commands all traces have
abbrev pub all_says : List (List Command) → ℕ
all_says [] = 0
all_says (trace ∷ traces) = says_in trace + all_says traces

-- and one at least
abbrev pub room_of : List (List Command) → ℕ
room_of traces = max (all_says traces) 1
