-- One operation on the words is that operation on the heap.
use Rattle.std.proofs.Common.{arith, length-set, ◌≡◌, ℕ, ◌≤◌, ◌<◌, ◌+◌, ◌-◌, true, eqb, refl, sym, List, length, get_or, inl, inr}
use Rattle.std.proofs.lemmas.Bool.{cases_Bool}
use Rattle.block_store.specs.Places.{Extent, Place, index, in_range, words_count}
use Rattle.block_store.specs.Heaps.{heap_of}
use Rattle.block_store.proofs.Lemmas.{below, heap_of-put}
use Rattle.heap_machine.specs.Operations.{Operation, Load, Exchange, CompareExchange, FetchAdd, FetchSub, place_of, heap_after, Fits, op_at, op_place, SumFits, words_after}

-- the word at a place is the word at its index
pub heap_of-at : (e : Extent) (ws : List ℕ) (p : Place) → in_range e p ≡ true → heap_of e ws p ≡ get_or ws (index e p) 0
heap_of-at e ws p inp = rw inp refl

pub op_place-at : (e : Extent) (o : Operation) → op_place (op_at e o) ≡ index e (place_of o)
op_place-at e (Load p) = refl
op_place-at e (Exchange p v) = refl
op_place-at e (CompareExchange p old v) = refl
op_place-at e (FetchAdd p v) = refl
op_place-at e (FetchSub p v) = refl

-- its place is one of the words
pub op_place_below : (e : Extent) (ws : List ℕ) (o : Operation) → in_range e (place_of o) ≡ true → words_count e ≤ length ws → op_place (op_at e o) < length ws
op_place_below e ws o inp long =
    let low : index e (place_of o) < words_count e = below e (place_of o) inp in
    let at : op_place (op_at e o) ≡ index e (place_of o) = op_place-at e o in
    omega arith

-- the word that it reads is that of its place
pub word_before : (e : Extent) (ws : List ℕ) (o : Operation) → in_range e (place_of o) ≡ true → get_or ws (op_place (op_at e o)) 0 ≡ heap_of e ws (place_of o)
word_before e ws o inp = rw (op_place-at e o) (sym (heap_of-at e ws (place_of o) inp))

-- a sum or difference that fits at the place fits at the index
pub sum_fits : (e : Extent) (o : Operation) (w : ℕ) → Fits o w → SumFits (op_at e o) w
sum_fits e (Load p) w h = tt
sum_fits e (Exchange p v) w h = tt
sum_fits e (CompareExchange p old v) w h = tt
sum_fits e (FetchAdd p v) w h = h
sum_fits e (FetchSub p v) w h = h

-- the words after it show the heap after it
pub heap_of-after : (e : Extent) (ws : List ℕ) (o : Operation) → in_range e (place_of o) ≡ true → words_count e ≤ length ws → heap_of e (words_after (op_at e o) ws) ≡ heap_after (heap_of e ws) o
heap_of-after e ws (Load p) inp long = refl
heap_of-after e ws (Exchange p v) inp long = heap_of-put e ws p v inp long
heap_of-after e ws (CompareExchange p old v) inp long =
    let at = heap_of-at e ws p inp in
    rw at (elim (cases_Bool (eqb (get_or ws (index e p) 0) old)) [
      | inl is ↦ rw is (heap_of-put e ws p v inp long)
      | inr is ↦ rw is refl
    ])
heap_of-after e ws (FetchAdd p v) inp long =
    let at = heap_of-at e ws p inp in
    rw at (heap_of-put e ws p (get_or ws (index e p) 0 + v) inp long)
heap_of-after e ws (FetchSub p v) inp long =
    let at = heap_of-at e ws p inp in
    rw at (heap_of-put e ws p (get_or ws (index e p) 0 - v) inp long)

-- the number of words stays
pub length-after : (e : Extent) (ws : List ℕ) (o : Operation) → length (words_after (op_at e o) ws) ≡ length ws
length-after e ws (Load p) = refl
length-after e ws (Exchange p v) = simp length-set
length-after e ws (CompareExchange p old v) = elim (cases_Bool (eqb (get_or ws (index e p) 0) old)) [
  | inl is ↦ rw is (simp length-set)
  | inr is ↦ rw is refl
]
length-after e ws (FetchAdd p v) = simp length-set
length-after e ws (FetchSub p v) = simp length-set
