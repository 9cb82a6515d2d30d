-- The lines of a job.
use Rattle.std.specs.Prelude.{ℕ, ◌+◌, List, length, take}
use Rattle.std.specs.List.{sum_by}
use Rattle.never_heap.specs.declared.Entry.{Entry}

-- The line of command `number`, from 0, of thread t, where the logs have the commands of all
-- threads: line 1 is the header, and each thread has a line before those of its commands.
abbrev pub line_in : List (List Entry) → ℕ → ℕ → ℕ
line_in logs t number = 3 + t + sum_by length (take t logs) + number
