-- How far a writer of a run in order came: how many entries of each thread, and how many starts,
-- were written.
use Rattle.std.specs.Prelude.{ℕ, ◌+◌, ◌<◌, ◌^◌, ◌==◌, if◌then◌else◌, List, [], length, take, drop, slice_index_or}
use Rattle.std.specs.List.{flat_map}
use Rattle.never_heap.specs.declared.Entry.{Entry}
use Rattle.never_heap.specs.declared.Item.{Item}
use Rattle.never_heap.specs.declared.Item.TheVariants as items
use Rattle.trace_text.specs.RunTexts.{entry_line, start_line}

-- what each thread has left
abbrev pub left_of : List (List Entry) → (ℕ → ℕ) → ℕ → List Entry
left_of logs told t = drop (told t) (slice_index_or logs t [])

-- there is a next item of this kind: an entry is left, or one more start can be counted
abbrev pub HasNext : List (List Entry) → (ℕ → ℕ) → ℕ → Item → Type 0
HasNext logs told starts items.Start = starts + 1 < 2 ^ 64
HasNext logs told starts (items.Entry t) = told t < length (slice_index_or logs t [])

-- the line of the next item
abbrev pub next_line : List (List Entry) → (ℕ → ℕ) → ℕ → Item → List ℕ
next_line logs told starts items.Start = start_line (starts + 1)
next_line logs told starts (items.Entry t) = flat_map entry_line (take 1 (left_of logs told t))

-- how much is written after it
abbrev pub told_after : (ℕ → ℕ) → Item → ℕ → ℕ
told_after told items.Start u = told u
told_after told (items.Entry t) u = if t == u then told u + 1 else told u

abbrev pub starts_after : ℕ → Item → ℕ
starts_after starts items.Start = starts + 1
starts_after starts (items.Entry t) = starts
