-- A heap as a function from its places to their words.
use Rattle.std.specs.Prelude.{ℕ, cond, List, slice_index}
use Rattle.block_store.specs.Places.{Extent, Place, in_range, index, same_place}

abbrev pub Heap : Type 0
Heap = Place → ℕ

-- the heap that a list of words is; a place out of range reads 0
abbrev pub heap_of : Extent → List ℕ → Heap
heap_of e ws = λ p. cond (in_range e p) (slice_index ws (index e p)) 0

-- the heap after v is written at p
abbrev pub put_at : Heap → Place → ℕ → Heap
put_at h p v = λ q. cond (same_place p q) v (h q)
