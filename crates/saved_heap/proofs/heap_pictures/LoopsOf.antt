-- The loops over values and over objects.
use Rattle.std.proofs.Common.{◌≡◌, ℕ, suc, List, [], ◌∷◌, Ok, refl}
use Rattle.saved_heap.specs.heap_pictures.Reading.{◌>>=◌, item_read, items_at, some_values_at, value_at}

pub no_values : (bytes : List ℕ) → some_values_at 0 bytes ≡ Ok ([], bytes)
unfolding some_values_at
no_values bytes = refl

pub more_values : (n : ℕ) (bytes : List ℕ) → some_values_at (suc n) bytes ≡ (value_at bytes >>= λ first. some_values_at n first.1 >>= λ others. Ok (first.0 ∷ others.0, others.1))
unfolding some_values_at
more_values n bytes = refl

pub no_items : (bytes : List ℕ) → items_at 0 bytes ≡ Ok ([], bytes)
unfolding items_at
no_items bytes = refl

pub more_items : (n : ℕ) (bytes : List ℕ) → items_at (suc n) bytes ≡ (item_read bytes >>= λ first. items_at n first.1 >>= λ others. Ok (first.0 ∷ others.0, others.1))
unfolding items_at
more_items n bytes = refl
