-- What a comparison with the box of a slot gives, and what the last replies of an operation say.
use Rattle.std.proofs.Common.{◌≡◌, ℕ, ◌+◌, ◌*◌, ◌==◌, ◌&&◌, inl, inr, cond, Bool, true, false, Some, None, List, [], ◌∷◌, ◌++◌, eq-eqb, ne_eqb, sym, refl, ap, ◌∙◌, arith}
use Rattle.std.proofs.lemmas.Bool.{cases_eq}
use Rattle.block_store.specs.declared.Name.{Name}
use Rattle.block_store.specs.declared.Value.{Value}
use Rattle.block_store.specs.declared.Value.TheVariants.{Nil, Ref}
use Rattle.never_heap.specs.declared.Reply.{Reply}
use Rattle.never_heap.specs.declared.Reply.TheVariants.{Yes, No}
use Rattle.never_heap.specs.Graphs.{Graph, Object}
use Rattle.never_heap.specs.Steps.{same_value}
use Rattle.array_tables.specs.handle_table.Handles.{Matched, Found, Slot, holds, is_free, is_yes, last_of, done_told, found_by, found_behind, found_told}
use Rattle.array_tables.proofs.handle_table.Boxes.{box_name, Shows}

-- boxes are the same where their handles are
same_box : (u l t j : ℕ)
    → (u == t) && (2 * l + 1 + 1 == 2 * j + 1 + 1) ≡ (u == t) && (l == j)
same_box u l t j = ap (λ (b : Bool). (u == t) && b) (elim (cases_eq l j) [
  | inl e ↦ eq-eqb _ _ (omega arith) ∙ sym (eq-eqb l j e)
  | inr ne ↦ ne_eqb _ _ (λ e. ne (omega arith)) ∙ sym (ne_eqb l j ne)
])

pub same_handle : (obj : Name → Object) (out : ℕ → ℕ) (x : Value) (slot : Slot) (t j : ℕ)
    → Shows obj out x slot → same_value x (Ref (box_name t j)) ≡ holds slot t j
same_handle obj out Nil None t j s = refl
same_handle obj out (Ref a) (Some c) t j s =
    ap (λ (b : Name). same_value (Ref b) (Ref (box_name t j))) s.0 ∙ same_box c.0 c.1 t j
same_handle obj out _ _ t j s = absurd s

pub same_nil : (obj : Name → Object) (out : ℕ → ℕ) (x : Value) (slot : Slot)
    → Shows obj out x slot → same_value x Nil ≡ is_free slot
same_nil obj out Nil None s = refl
same_nil obj out (Ref a) (Some c) s = refl
same_nil obj out _ _ s = absurd s

pub yes_of : (b : Bool) (g k : Graph)
    → is_yes (cond {A = Graph × Reply} b (k, Yes) (g, No)).1 ≡ b
yes_of true g k = refl
yes_of false g k = refl

pub yes_same : (b : Bool) → is_yes (cond b Yes No) ≡ b
yes_same true = refl
yes_same false = refl

-- ---- the last replies

last_again : (a r : Reply) (before : List Reply) → last_of a (before ++ r ∷ []) ≡ r
last_again a r [] = refl
last_again a r (b ∷ before) = last_again b r before

pub done_again : (before : List Reply) (r : Reply)
    → done_told (before ++ r ∷ []) ≡ Matched (is_yes r)
done_again [] r = refl
done_again (a ∷ before) r = ap (λ (s : Reply). Matched (is_yes s)) (last_again a r before)

behind_again : (x y z a b c : Reply) (before : List Reply)
    → found_behind x y z (before ++ a ∷ b ∷ c ∷ []) ≡ Found (found_by a c)
behind_again x y z a b c [] = refl
behind_again x y z a b c (d ∷ before) = behind_again y z d a b c before

pub three_again : (before : List Reply) (a b c : Reply)
    → found_told (before ++ a ∷ b ∷ c ∷ []) ≡ Found (found_by a c)
three_again [] a b c = refl
three_again (x ∷ []) a b c = refl
three_again (x ∷ y ∷ []) a b c = refl
three_again (x ∷ y ∷ z ∷ before) a b c = behind_again x y z a b c before
