-- The next item of the history that an order makes, where so many entries of each log were told.
use Rattle.std.specs.Prelude.{ℕ, ◌+◌, ◌≡◌, List, ◌∷◌, [], drop, slice_index_or, slice_set}
use Rattle.never_heap.specs.declared.Entry.{Entry}
use Rattle.never_heap.specs.declared.Item.{Item}
use Rattle.never_heap.specs.declared.Item.TheVariants as items
use Rattle.test_kit.specs.declared.reference_runs.Happened.{Happened}
use Rattle.test_kit.specs.declared.reference_runs.Happened.TheVariants as happened

-- what each log has left
abbrev pub left_of : List (List Entry) → List ℕ → ℕ → List Entry
left_of logs told t = drop (slice_index_or told t 0) (slice_index_or logs t [])

-- this is the next entry of a thread, and its own
abbrev pub IsNextEntry : List (List Entry) → List ℕ → ℕ → Entry → Type 0
IsNextEntry logs told t e =
    (e.thread ≡ t) × ((rest : List Entry) × (left_of logs told t ≡ e ∷ rest))

-- what happened next is this, and then so many entries were told
abbrev pub IsNext : List (List Entry) → List ℕ → List ℕ → Item → Happened → Type 0
IsNext logs told since items.Start x = (x ≡ happened.Started) × (since ≡ told)
IsNext logs told since (items.Entry t) x =
    (e : Entry) × (x ≡ happened.Did e) × IsNextEntry logs told t e
    × (since ≡ slice_set told t (slice_index_or told t 0 + 1))

-- the item is an entry of a thread that has none left, or of which the next is another's
abbrev pub NoNext : List (List Entry) → List ℕ → Item → Type 0
NoNext logs told items.Start = ⊥
NoNext logs told (items.Entry t) = (e : Entry) → IsNextEntry logs told t e → ⊥
