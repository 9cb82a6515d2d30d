-- The history that an order makes with the logs of its threads.
use Rattle.std.specs.Prelude.{ℕ, ◌≡◌, List, [], map, slice_index_or}
use Rattle.never_heap.specs.declared.Entry.{Entry}
use Rattle.never_heap.specs.declared.Item.{Item}
use Rattle.never_heap.specs.declared.Item.TheVariants as items
use Rattle.never_heap.specs.Histories.{HistoryItem, Started, Did, part}

-- an item of a history without what the log has of it
abbrev pub item_of : HistoryItem → Item
item_of Started = items.Start
item_of (Did e) = items.Entry e.thread

-- the history has the starts and threads of the order, and its parts are the logs; there is no
-- other thread
pub record IsHistoryOf
    (order : List Item) (logs : List (List Entry)) (h : List HistoryItem)
    : Type 0 where
  pub items : map item_of h ≡ order
  pub logged : (t : ℕ) → part t h ≡ slice_index_or logs t []
