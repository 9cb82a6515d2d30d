-- The place of an entry in a history.
use Rattle.std.specs.Prelude.{◌≡◌, ◌++◌, List, [], ◌∷◌}
use Rattle.never_heap.specs.declared.Entry.{Entry}
use Rattle.never_heap.specs.Histories.{HistoryItem, Did, part}
use Rattle.shared_heap.specs.Shared.{IsStartOf}

-- History h has the entry after a prefix, in which its thread has the entries `log` and no others:
-- so it is the thread's next entry, and not an equal one later. That prefix begins with all items
-- of the first history.
pub record StandsBehind (first : List HistoryItem) (log : List Entry) (e : Entry)
    (h : List HistoryItem) : Type 0 where
  pub before : List HistoryItem
  pub later : List HistoryItem
  pub place : h ≡ before ++ Did e ∷ later
  pub own : part e.thread before ≡ log
  pub behind : IsStartOf first before

-- and so for each of these histories
abbrev pub StandsBehindAll : List (List HistoryItem) → List Entry → Entry → List HistoryItem
    → Type 0
StandsBehindAll [] log e h = Unit {0}
StandsBehindAll (n ∷ ns) log e h = StandsBehind n log e h × StandsBehindAll ns log e h
