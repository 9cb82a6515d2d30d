-- Values in the places of an array from one on, around its end.
use Rattle.std.specs.Prelude.{ℕ, ◌+◌, ◌-◌, ◌<◌, ◌≤◌, ◌≡◌, nat_lt, if◌then◌else◌, List, length, drop, slice_index_or}
use Rattle.block_store.specs.declared.Value.{Value}
use Rattle.block_store.specs.declared.Value.TheVariants.{Nil}

-- the last n of some values, or all of fewer
abbrev pub last_of : {A : Type 0} → ℕ → List A → List A
last_of n xs = drop (length xs - n) xs

-- place p of n places, counted around the end
abbrev pub around : ℕ → ℕ → ℕ
around n p = if nat_lt p n then p else p - n

-- The values xs are in the n places of an array from place `first` on; the other places are nil.
pub record IsCircle (n first : ℕ) (array xs : List Value) : Type 0 where
  pub long : length array ≡ n
  pub start : first < n
  pub few : length xs ≤ n
  pub places : (i : ℕ) → i < n
      → slice_index_or array (around n (first + i)) Nil ≡ slice_index_or xs i Nil
