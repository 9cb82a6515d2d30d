-- The timed commands of a run, and which of them a row is of.
use Rattle.std.specs.Prelude.{ℕ, ◌<◌, ◌≡◌, ◌==◌, ◌&&◌, nat_lt, if◌then◌else◌, Bool, true, List, [], ◌∷◌, length, map, Option, None, Some}
use Rattle.std.specs.List.{count_by, filter, slice_index_or, sum_by}
use Rattle.block_store.specs.declared.Width.{Width}
use Rattle.never_heap.specs.declared.Command.{Command}
use Rattle.never_heap.specs.declared.Entry.{Entry}
use Rattle.timed_runs.specs.Kinds.{is_counted_in}
use Rattle.timed_runs.specs.declared.kinds.Kind.{Kind}
use Rattle.timed_runs.specs.declared.samples.TimedCommand.{TimedCommand}
use Rattle.timed_runs.specs.declared.samples.Which.{Which}

-- whether a command is among those of a kind, or of all
abbrev pub is_among : Width → Option Kind → Command → Bool
is_among w None k = true
is_among w (Some kind) k = is_counted_in w k kind

-- whether a thread is the one, or one of all
abbrev pub is_thread : Option ℕ → ℕ → Bool
is_thread None t = true
is_thread (Some one) t = one == t

-- the timed commands of which a row is, in their order
abbrev pub is_asked : Width → Which → TimedCommand → Bool
is_asked w which x = is_thread which.thread x.thread && is_among w which.kind x.command

abbrev pub asked : Width → Which → List TimedCommand → List TimedCommand
asked w which xs = filter (is_asked w which) xs

abbrev pub times_of : List TimedCommand → List ℕ
times_of xs = map (λ x. x.nanoseconds) xs

-- the first of those that took the longest
abbrev pub longer_of : Option TimedCommand → TimedCommand → TimedCommand
longer_of None x = x
longer_of (Some y) x = if nat_lt y.nanoseconds x.nanoseconds then x else y

abbrev pub longest_from : Option TimedCommand → List TimedCommand → Option TimedCommand
longest_from o [] = o
longest_from o (x ∷ xs) = longest_from (Some (longer_of o x)) xs

abbrev pub longest_of : List TimedCommand → Option TimedCommand
longest_of xs = longest_from None xs

-- how many commands there are of a kind, or of all: of one thread, or of all
abbrev pub count_of : Width → Option Kind → List Entry → ℕ
count_of w kind es = count_by (λ e. is_among w kind e.command) es

abbrev pub count_over : Option ℕ → Width → Option Kind → List (List Entry) → ℕ
count_over None w kind logs = sum_by (count_of w kind) logs
count_over (Some t) w kind logs = count_of w kind (slice_index_or logs t [])

abbrev pub count_in : Width → Which → List (List Entry) → ℕ
count_in w which logs = count_over which.thread w which.kind logs

-- it is the command of this thread and number in the logs
abbrev pub IsCommandOf : List (List Entry) → TimedCommand → Type 0
IsCommandOf logs x =
    (x.number < length (slice_index_or logs x.thread []))
    × ((d : Entry)
    → (slice_index_or (slice_index_or logs x.thread []) x.number d).command ≡ x.command)
