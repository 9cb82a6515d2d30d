-- Maps: the pairs that each shows, and what its calls answer.
use Rattle.std.specs.Prelude.{ℕ, ◌+◌, ◌*◌, ◌/◌, ◌<◌, ◌≡◌, Option, Some, None, List, [], ◌∷◌, length}
use Rattle.block_store.specs.declared.Value.{Value}
use Rattle.never_heap.specs.Graphs.{Graph}
use Rattle.heap_structures.specs.declared.cells.Cells.{Cells}
use Rattle.heap_structures.specs.declared.map.Map.{Map}
use Rattle.heap_structures.specs.declared.map.Insertion.{Insertion}
use Rattle.heap_structures.specs.declared.map.Insertion.TheVariants as insertions
use Rattle.control_heap.specs.Controls.{Control}
use Rattle.control_heap.specs.declared.faults.Fault.{Fault}
use Rattle.heap_structures.specs.Cells.{held}
use Rattle.heap_structures.specs.Heaps.{Does, Sight, Stops}
use Rattle.heap_structures.specs.Rings.{IsNoTarget}
use Rattle.heap_structures.specs.Pairs.{Pair, value_of, with_value}
use Rattle.heap_structures.specs.Tables.{IsTable, digits}

-- a map shows these pairs
abbrev pub IsMap : Graph → Map → List Pair → Type 0
IsMap g m xs = IsTable g m.cells m.count xs

abbrev pub map_cells : Map → Cells
map_cells m = m.cells

-- the most pairs of a map
abbrev pub most_pairs : Map → ℕ
most_pairs m = m.cells.size / 2

-- the most commands of a `get`, and of an `insert` or a `remove`, on a map of n pairs
abbrev pub most_to_get : ℕ → ℕ
most_to_get n = digits n + 2

abbrev pub most_to_change : ℕ → ℕ
most_to_change n = digits n + 4 * n + 4

-- A call of at most n commands, after which this holds. It may load a value into register d.
abbrev pub Loads : Sight → ℕ → Control → Control → Map → ℕ → Graph → (Graph → Type 0) → Type 0
Loads s n h z m d g Q = Does s n h z (d ∷ m.cells.spare ∷ []) m.cells.array g Q

-- a call of at most n commands that loads nothing
abbrev pub Changes : Sight → ℕ → Control → Control → Map → Graph → (Graph → Type 0) → Type 0
Changes s n h z m g Q = Does s n h z (m.cells.spare ∷ []) m.cells.array g Q

-- a call stops: it was given a bad register, or the life has no room for n commands
abbrev pub Refuses : ℕ → Map → ℕ → Control → Control → Fault → Type 0
Refuses n m d h z f = Stops n (IsNoTarget m.cells d) h z f

-- the value, if there is one, is in this register
abbrev pub IsLoaded : Graph → ℕ → Option Value → Type 0
IsLoaded g d None = Unit {0}
IsLoaded g d (Some v) = held g d ≡ v

-- the first of some pairs is this one, and its value is in this register; or there is none
abbrev pub GivesPair : Graph → ℕ → List Pair → Option Pair → Type 0
GivesPair g d (x ∷ xs) (Some y) = (y ≡ x) × (held g d ≡ x.1)
GivesPair g d [] None = Unit {0}
GivesPair g d xs y = ⊥

-- A key got its value, in place of none or of an old one; or there were n pairs, and none with this
-- key.
abbrev pub Inserts : ℕ → (List Pair → Type 0) → ℕ → Value → List Pair → Insertion → Type 0
Inserts n Shows k v xs insertions.Added =
    (value_of k xs ≡ None) × (length xs < n) × Shows (with_value k v xs)
Inserts n Shows k v xs (insertions.Replaced old) =
    (value_of k xs ≡ Some old) × Shows (with_value k v xs)
Inserts n Shows k v xs insertions.Full =
    (value_of k xs ≡ None) × (length xs ≡ n) × Shows xs
