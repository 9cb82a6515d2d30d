-- Pairs in an array: each key, and its value after it.
use Rattle.std.specs.Prelude.{ℕ, zero, suc, ◌+◌, ◌-◌, ◌*◌, ◌^◌, ◌<◌, ◌≤◌, ◌≡◌, List, [], ◌∷◌, ◌++◌, length, slice_index_or}
use Rattle.std.specs.Int.Count.{count_leading_zeros}
use Rattle.std.specs.List.{AllByRecursion}
use Rattle.block_store.specs.declared.Value.{Value}
use Rattle.block_store.specs.declared.Value.TheVariants.{Int, Nil}
use Rattle.never_heap.specs.Graphs.{Graph}
use Rattle.control_heap.specs.Controls.{Control}
use Rattle.heap_structures.specs.declared.cells.Cells.{Cells}
use Rattle.heap_structures.specs.declared.table.Place.{Place}
use Rattle.heap_structures.specs.declared.table.Place.TheVariants as places
use Rattle.heap_structures.specs.Cells.{IsCells}
use Rattle.heap_structures.specs.Heaps.{Does, Has, HasRoom, Sight}
use Rattle.heap_structures.specs.Pairs.{Pair, IsRising, above, below}

-- value t of an array of these pairs
abbrev pub place_of : List Pair → ℕ → Value
place_of [] t = Nil
place_of (x ∷ xs) zero = Int x.0
place_of (x ∷ xs) (suc zero) = x.1
place_of (x ∷ xs) (suc (suc t)) = place_of xs t

-- the array has these pairs, with rising keys below 2^32, and nils after them
pub record IsTable (g : Graph) (c : Cells) (count : ℕ) (xs : List Pair) : Type 0 where
  pub array : List Value
  pub cells : IsCells g c array
  pub places : (t : ℕ) → slice_index_or array t Nil ≡ place_of xs t
  pub few : 2 * length xs ≤ c.size
  pub rising : IsRising xs
  pub small : AllByRecursion (λ x. x.0 < 2 ^ 32) xs
  pub counted : length xs ≡ count

-- the heap has this graph, with these pairs in the array, and room for so many commands
pub record IsStocked (s : Sight) (n : ℕ) (h : Control) (c : Cells) (g : Graph) (count : ℕ)
    (xs : List Pair) : Type 0 where
  pub has : Has s h g
  pub table : IsTable g c count xs
  pub room : HasRoom n h

-- a call of at most n commands on an array, after which this holds
abbrev pub Works : Sight → ℕ → Control → Control → Cells → Graph → (Graph → Type 0) → Type 0
Works s n h z c g Q = Does s n h z (c.spare ∷ []) c.array g Q

-- how many binary digits a number below 2^32 has
abbrev pub digits : ℕ → ℕ
digits n = 32 - count_leading_zeros 32 n

-- where a key is, or would be
abbrev pub Finds : ℕ → List Pair → Place → Type 0
Finds k xs (places.Row r) =
    (r ≡ length (below k xs)) × ((v : Value) × (xs ≡ below k xs ++ (k, v) ∷ above k xs))
Finds k xs (places.Before r) = (r ≡ length (below k xs)) × (xs ≡ below k xs ++ above k xs)

abbrev pub IsRowOf : ℕ → Place → Type 0
IsRowOf count (places.Row r) = r < count
IsRowOf count (places.Before r) = Unit {0}

-- the values in the places from `first` to before `end` went up by two places
pub record IsRaised (g : Graph) (c : Cells) (first end : ℕ) (vs : List Value) : Type 0 where
  pub array : List Value
  pub cells : IsCells g c array
  pub before : (t : ℕ) → t < first + 2 → slice_index_or array t Nil ≡ slice_index_or vs t Nil
  pub moved : (t : ℕ) → first ≤ t → t < end
      → slice_index_or array (t + 2) Nil ≡ slice_index_or vs t Nil
  pub behind : (t : ℕ) → end + 2 ≤ t → slice_index_or array t Nil ≡ slice_index_or vs t Nil

-- the places from `first` to before `end` have the values of two places further on
pub record IsLowered (g : Graph) (c : Cells) (first end : ℕ) (vs : List Value) : Type 0 where
  pub array : List Value
  pub cells : IsCells g c array
  pub before : (t : ℕ) → t < first → slice_index_or array t Nil ≡ slice_index_or vs t Nil
  pub moved : (t : ℕ) → first ≤ t → t < end
      → slice_index_or array t Nil ≡ slice_index_or vs (t + 2) Nil
  pub behind : (t : ℕ) → end ≤ t → slice_index_or array t Nil ≡ slice_index_or vs t Nil
