-- The text of a history in order: a line for each item, and one of the totals.
use Rattle.std.specs.Prelude.{ℕ, ◌+◌, ◌≡◌, ◌==◌, if◌then◌else◌, List, [], ◌∷◌, ◌++◌, length, take, drop, map, slice_index_or}
use Rattle.std.specs.List.{flat_map}
use Rattle.never_heap.specs.declared.Entry.{Entry}
use Rattle.never_heap.specs.declared.Item.{Item}
use Rattle.never_heap.specs.declared.Item.TheVariants as items
use Rattle.never_heap.specs.Histories.{HistoryItem, Started, Did, starts_in, work_in}
use Rattle.trace_text.specs.Lines.{ended}
use Rattle.trace_text.specs.RunTexts.{entry_text, start_text, totals_text, totals_line}

-- an item's line, where so many starts come before it
abbrev pub item_text : ℕ → HistoryItem → List ℕ
item_text starts Started = start_text (starts + 1)
item_text starts (Did e) = entry_text e

-- the last line
abbrev pub end_text : List HistoryItem → List ℕ
end_text h = totals_text (starts_in h) (work_in h)

-- the lines of the items, where so many starts come before them
abbrev pub lines_from : ℕ → List HistoryItem → List (List ℕ)
lines_from starts [] = []
lines_from starts (Started ∷ h) = item_text starts Started ∷ lines_from (starts + 1) h
lines_from starts (Did e ∷ h) = item_text starts (Did e) ∷ lines_from starts h

-- the text of a history in order, as lines
abbrev pub order_lines : List HistoryItem → List (List ℕ)
order_lines h = lines_from 0 h ++ end_text h ∷ []

-- the same as it is written
abbrev pub text_in_order : List HistoryItem → List ℕ
text_in_order h = flat_map ended (order_lines h)

-- how often an order names a thread
abbrev pub entries_in : ℕ → List Item → ℕ
entries_in t [] = 0
entries_in t (items.Start ∷ order) = entries_in t order
entries_in t (items.Entry u ∷ order) = (if u == t then 1 else 0) + entries_in t order

-- an order names each thread as often as its log is long, and no other thread
abbrev pub IsOrderOf : List Item → List (List Entry) → Type 0
IsOrderOf order logs = (t : ℕ) → entries_in t order ≡ length (slice_index_or logs t [])

-- what the threads have left after an entry of this one
abbrev pub left_behind : ℕ → (ℕ → List Entry) → ℕ → List Entry
left_behind t left u = if t == u then drop 1 (left u) else left u

-- the history that an order makes of what each thread has left: an entry is its thread's next
abbrev pub history_from : (ℕ → List Entry) → List Item → List HistoryItem
history_from left [] = []
history_from left (items.Start ∷ order) = Started ∷ history_from left order
history_from left (items.Entry t ∷ order) =
    map (λ e. Did e) (take 1 (left t)) ++ history_from (left_behind t left) order

-- the history that an order makes of logs
abbrev pub history_of : List Item → List (List Entry) → List HistoryItem
history_of order logs = history_from (λ t. slice_index_or logs t []) order

-- the text of a run in order: the lines of its history, and the totals
abbrev pub order_text : List Item → List (List Entry) → ℕ → ℕ → List ℕ
order_text order logs cycles units =
    flat_map ended (lines_from 0 (history_of order logs)) ++ totals_line cycles units
