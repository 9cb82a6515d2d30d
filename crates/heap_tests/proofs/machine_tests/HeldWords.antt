-- What the place can hold that an operation is on.
use Rattle.std.proofs.Common.{◌≡◌, ℕ, List, slice_index, true, sym, ap, ◌∙◌, subst}
use Rattle.block_store.specs.declared.Config.{Config}
use Rattle.block_store.specs.Places.{Extent, extent, in_range, place_at}
use Rattle.block_store.proofs.Lemmas.{back}
use Rattle.heap_machine.specs.Readings.{CanHold}
use Rattle.heap_machine.specs.declared.op.Op.{Op}
use Rattle.heap_machine.specs.Operations.{Operation, place_of, op_at, op_place}
use Rattle.heap_machine.proofs.Lemmas.{op_place-at}

pub at_place : (e : Extent) (o : Operation) (i w : ℕ) → in_range e (place_of o) ≡ true → i ≡ op_place (op_at e o) → CanHold e (place_at e i) w → CanHold e (place_of o) w
at_place e o i w range is holds =
    let here : place_at e i ≡ place_of o = ap (place_at e) (is ∙ op_place-at e o) ∙ back e (place_of o) range in
    subst (λ p. CanHold e p w) here holds

-- the same of what a part wants, where the places are those of the configuration
pub held_there : (c p : Config) → p ≡ c → (want : Extent → Operation) (w i : ℕ) (op : Op) → in_range (extent c) (place_of (want (extent c))) ≡ true → op ≡ op_at (extent p) (want (extent p)) → i ≡ op_place op → CanHold (extent c) (place_at (extent c) i) w → CanHold (extent p) (place_of (want (extent p))) w
held_there c p is want w i op range wanted place holds =
    let here : op ≡ op_at (extent c) (want (extent c)) = subst (λ (x : Config). op ≡ op_at (extent x) (want (extent x))) is wanted in
    subst (λ (x : Config). CanHold (extent x) (place_of (want (extent x))) w) (sym is)
    (at_place (extent c) (want (extent c)) i w range (place ∙ ap op_place here) holds)

-- what an event at the words read is the word that stood there
pub read_there : (ws : List ℕ) (op wanted : Op) → op ≡ wanted → (good : ℕ → Type 0) (word : ℕ) → word ≡ slice_index ws (op_place op) → (w : ℕ) → w ≡ slice_index ws (op_place wanted) → good word → good w
read_there ws op wanted is good word there w read holds =
    subst good (there ∙ ap (λ (o : Op). slice_index ws (op_place o)) is ∙ sym read) holds
