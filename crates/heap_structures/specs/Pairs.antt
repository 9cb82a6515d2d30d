-- Lists of pairs with rising keys, as plain maps.
use Rattle.std.specs.Prelude.{ℕ, ◌<◌, ◌==◌, nat_lt, if◌then◌else◌, Option, Some, None, List, [], ◌∷◌, ◌++◌, slice_index_or}
use Rattle.std.specs.List.{AllByRecursion}
use Rattle.block_store.specs.declared.Value.{Value}
use Rattle.block_store.specs.declared.Value.TheVariants.{Nil}

-- a key and its value
abbrev pub Pair : Type 0
Pair = ℕ × Value

-- each key is below all that follow it
abbrev pub IsRising : List Pair → Type 0
IsRising [] = Unit {0}
IsRising (x ∷ xs) = AllByRecursion (λ y. x.0 < y.0) xs × IsRising xs

-- the value of a key
abbrev pub value_of : ℕ → List Pair → Option Value
value_of k [] = None
value_of k (x ∷ xs) = if x.0 == k then Some x.1 else value_of k xs

-- the pairs with smaller keys
abbrev pub below : ℕ → List Pair → List Pair
below k [] = []
below k (x ∷ xs) = if nat_lt x.0 k then x ∷ below k xs else below k xs

-- the pairs with larger keys
abbrev pub above : ℕ → List Pair → List Pair
above k [] = []
above k (x ∷ xs) = if nat_lt k x.0 then x ∷ above k xs else above k xs

-- the pairs with this value for a key, in place of any value that it had
abbrev pub with_value : ℕ → Value → List Pair → List Pair
with_value k v xs = below k xs ++ (k, v) ∷ above k xs

-- the pairs without a key
abbrev pub without : ℕ → List Pair → List Pair
without k xs = below k xs ++ above k xs

-- the pair at a place; past the end it means nothing
abbrev pub pair_at : List Pair → ℕ → Pair
pair_at xs i = slice_index_or xs i (0, Nil)
