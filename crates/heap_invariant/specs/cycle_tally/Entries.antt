-- The entries of a history.
use Rattle.std.specs.Prelude.{ℕ, ◌+◌, ◌<◌, List, [], ◌∷◌}
use Rattle.never_heap.specs.Histories.{HistoryItem, Started, Did}

-- how many there are
abbrev pub entries_in : List HistoryItem → ℕ
entries_in [] = 0
entries_in (Started ∷ h) = entries_in h
entries_in (Did e ∷ h) = entries_in h + 1

-- each entry is of one of n threads
abbrev pub InThreads : ℕ → List HistoryItem → Type 0
InThreads n [] = Unit {0}
InThreads n (Started ∷ h) = InThreads n h
InThreads n (Did e ∷ h) = (e.thread < n) × InThreads n h
