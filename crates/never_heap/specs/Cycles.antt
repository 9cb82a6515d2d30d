-- The cycles of a history: the c-th start of the history is the start of cycle c.
use Rattle.std.specs.Prelude.{ℕ, ◌-◌, ◌==◌, if◌then◌else◌, List, [], ◌∷◌}
use Rattle.block_store.specs.declared.Config.{Config}
use Rattle.never_heap.specs.Graphs.{Graph}
use Rattle.never_heap.specs.Histories.{HistoryItem, Started, Did, replay}

-- the items before the c-th start, counted from 1
abbrev pub before_start : ℕ → List HistoryItem → List HistoryItem
before_start c [] = []
before_start c (Started ∷ h) = if c == 1 then [] else Started ∷ before_start (c - 1) h
before_start c (Did e ∷ h) = Did e ∷ before_start c h

-- the items after the c-th start
abbrev pub after_start : ℕ → List HistoryItem → List HistoryItem
after_start c [] = []
after_start c (Started ∷ h) = if c == 1 then h else after_start (c - 1) h
after_start c (Did e ∷ h) = after_start c h

-- the graph at the start of cycle c
abbrev pub graph_at : Config → List HistoryItem → ℕ → Graph
graph_at config h c = replay config (before_start c h)
