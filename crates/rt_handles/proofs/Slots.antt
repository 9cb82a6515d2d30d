-- The slots of the last makes, after one operation more.
use Rattle.std.proofs.Common.{◌≡◌, ℕ, ◌<◌, ◌≤◌, ◌==◌, cond, Option, Some, None, List, [], ◌∷◌, ◌++◌, length, ne_eqb, refl, sym, ap, ◌∙◌, arith}
use Rattle.std.specs.Prelude.{slice_set}
use Rattle.never_heap.proofs.Lemmas.{get_or_set}
use Rattle.array_tables.specs.declared.handle_table.operation.Operation.{Operation}
use Rattle.array_tables.specs.declared.handle_table.operation.Operation.TheVariants.{Make}
use Rattle.array_tables.specs.handle_table.Handles.{slot_of, slot_by}
use Rattle.array_tables.proofs.Lemmas.{slot_more}
use Rattle.rt_handles.specs.Slots.{AreSlotsOf, make_in}

-- what an operation does to the slot of h
abbrev slot_after : ℕ → Option ℕ → Option (ℕ × ℕ) → Option ℕ
slot_after h slot None = slot
slot_after h slot (Some m) = cond (m.0 == h) (Some m.1) slot

by_make : (h : ℕ) (slot : Option ℕ) (op : Operation) → slot_by h slot op ≡ slot_after h slot (make_in op)
by_make h slot (Make g i x) = refl
by_make h slot _ = refl

module _ (slots : List (Option ℕ)) (ops new : List Operation) (op : Operation)
    (are : AreSlotsOf slots ops) (pushed : new ≡ ops ++ op ∷ []) where
  slot_is : (h : ℕ) (m : Option (ℕ × ℕ)) → make_in op ≡ m
      → slot_of h new ≡ slot_after h (slot_of h ops) m
  slot_is h m made = ap (slot_of h) pushed ∙ slot_more h None ops op
      ∙ by_make h (slot_of h ops) op ∙ ap (slot_after h (slot_of h ops)) made

  pub slots_still : make_in op ≡ None → AreSlotsOf slots new
  slots_still none h low = are h low ∙ sym (slot_is h None none)

  pub slots_far : (g i : ℕ) → make_in op ≡ Some (g, i) → 8 ≤ g → AreSlotsOf slots new
  slots_far g i made far h low =
      are h low ∙ sym (ap (λ b. cond b (Some i) (slot_of h ops)) (ne_eqb g h (λ e. omega (arith, far, low, e))))
      ∙ sym (slot_is h (Some (g, i)) made)

  pub slots_set : (g i : ℕ) → make_in op ≡ Some (g, i) → g < length slots
      → AreSlotsOf (slice_set slots g (Some i)) new
  slots_set g i made there h low =
      get_or_set slots g h (Some i) None there
      ∙ ap (λ (o : Option ℕ). cond (g == h) (Some i) o) (are h low)
      ∙ sym (slot_is h (Some (g, i)) made)
