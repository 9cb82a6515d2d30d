-- When an allocation of a run is refused at the earliest.
use Rattle.std.specs.Prelude.{ℕ, ◌≤◌, ◌≡◌, true, List, ◌∷◌, ◌++◌}
use Rattle.never_heap.specs.declared.Entry.{Entry}
use Rattle.never_heap.specs.Histories.{HistoryItem, Did, is_full, starts_in}

-- each entry that is answered full comes after the start of cycle 3
abbrev pub AreFullsLate : List HistoryItem → Type 0
AreFullsLate h = (past : List HistoryItem) (e : Entry) (rest : List HistoryItem)
    → h ≡ past ++ Did e ∷ rest → is_full e.reply ≡ true → 3 ≤ starts_in past
