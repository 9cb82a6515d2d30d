-- Items and boxes: how a slot is shown by them, what registers hold of them at rest, that this
-- stays true, and how many blocks they take.
use Rattle.std.proofs.Common.{◌≡◌, ℕ, zero, suc, ◌+◌, ◌-◌, ◌*◌, ◌<◌, ◌==◌, ◌⊎◌, inl, inr, cond, ltb, Bool, true, false, Option, Some, None, List, [], ◌∷◌, get_or, sym, refl, ap, ◌∙◌, subst, arith}
use Rattle.std.proofs.lemmas.Bool.{lt-ltb, le-ltb}
use Rattle.block_store.specs.declared.Name.{Name}
use Rattle.block_store.specs.declared.Value.{Value}
use Rattle.block_store.specs.declared.Value.TheVariants.{Nil, Int, Ref}
use Rattle.block_store.specs.declared.Width.TheVariants.{Eight}
use Rattle.never_heap.specs.Graphs.{Graph, Object, object_of}
use Rattle.array_tables.proofs.operations.LiveBound.{Carries}
use Rattle.array_tables.proofs.operations.Records.{IsRecord, IsShown, record_move, plain_numbers, carries_shown}
use Rattle.array_tables.proofs.operations.Tables.{Frame, Sym, Number, Own, Lasting, Plain, Meant, own_name, record_of}
use Rattle.array_tables.proofs.operations.Weights.{light_lasting, carries_own}
use Rattle.array_tables.specs.handle_table.Handles.{Slot, id}

-- make j of a thread makes these two objects, and no other operation makes any
abbrev pub item_name : ℕ → ℕ → Name
item_name t j = own_name t (2 * j) 0

abbrev pub box_name : ℕ → ℕ → Name
box_name t j = own_name t (2 * j) 1

abbrev pub box_fields : ℕ → ℕ → List Value
box_fields t j = Ref (item_name t j) ∷ Int (id t j) ∷ []

-- a finished item, and a finished box with its item: no command writes in them any more
abbrev pub IsItem : (Name → Object) → (ℕ → ℕ) → ℕ → ℕ → ℕ → Type 0
IsItem obj out t j x = IsRecord obj out (item_name t j) (Int x ∷ [])

abbrev pub IsBox : (Name → Object) → (ℕ → ℕ) → ℕ → ℕ → ℕ → Type 0
IsBox obj out t j x = IsItem obj out t j x × IsRecord obj out (box_name t j) (box_fields t j)

-- a value that shows a slot: nil where it is free, and else its box
abbrev pub Shows : (Name → Object) → (ℕ → ℕ) → Value → Slot → Type 0
Shows obj out Nil None = Unit {0}
Shows obj out Nil (Some c) = ⊥
Shows obj out (Int n) slot = ⊥
Shows obj out (Ref a) None = ⊥
Shows obj out (Ref a) (Some c) = (a ≡ box_name c.0 c.1) × IsBox obj out c.0 c.1 c.2

-- the fields of that box
abbrev pub box_shape : Slot → Option (List Value)
box_shape None = None
box_shape (Some c) = Some (box_fields c.0 c.1)

pub by_shape : (obj : Name → Object) (out : ℕ → ℕ) (v : Value) (slot : Slot) → Shows obj out v slot
    → IsShown obj out v (box_shape slot)
by_shape obj out Nil None s = tt
by_shape obj out (Ref a) (Some c) s =
    subst (λ (x : Name). IsRecord obj out x (box_fields c.0 c.1)) (sym s.0) s.1.1
by_shape obj out _ _ s = absurd s

-- nil, a number or a finished record of one number
abbrev pub IsSmall : (Name → Object) → (ℕ → ℕ) → Value → Type 0
IsSmall obj out Nil = Unit {0}
IsSmall obj out (Int n) = Unit {0}
IsSmall obj out (Ref a) = (x : ℕ) × IsRecord obj out a (Int x ∷ [])

-- the box of the last make of an h, or nil before the first one
abbrev pub HoldsHandle : (Name → Object) → (ℕ → ℕ) → ℕ → Value → ℕ → Type 0
HoldsHandle obj out t v zero = v ≡ Nil
HoldsHandle obj out t v (suc j) = (x : ℕ) × (v ≡ Ref (box_name t j)) × IsBox obj out t j x

-- the item of the slot, where it has one
abbrev pub HasItem : Slot → Value → Type 0
HasItem None v = Unit {0}
HasItem (Some c) v = v ≡ Ref (item_name c.0 c.1)

-- what is known of values besides slots
pub data Other : Type 0 where
  Loose : Other
  Small : Other
  Handle : (t n : ℕ) → Other
  Item : (slot : Slot) → Other

abbrev pub Means : (Name → Object) → (ℕ → ℕ) → Value → Other → Type 0
Means obj out v Loose = IsSmall obj out v ⊎ ((slot : Slot) × Shows obj out v slot)
Means obj out v Small = IsSmall obj out v
Means obj out v (Handle t n) = HoldsHandle obj out t v n
Means obj out v (Item slot) = IsSmall obj out v × HasItem slot v

-- ---- all this stays true while finished objects are not written

module _ (obj new : Name → Object) (out more : ℕ → ℕ) (frame : Frame obj new out more) where
  box_move : (t j x : ℕ) → IsBox obj out t j x → IsBox new more t j x
  box_move t j x s = (record_move frame s.0, record_move frame s.1)

  pub shows_move : (x : Value) (slot : Slot) → Shows obj out x slot → Shows new more x slot
  shows_move (Ref a) (Some c) s = (s.0, box_move c.0 c.1 c.2 s.1)
  shows_move _ _ s = s

  small_move : (x : Value) → IsSmall obj out x → IsSmall new more x
  small_move (Ref a) s = (s.0, record_move frame s.1)
  small_move _ s = s

  pub means_move : (x : Value) (k : Other) → Means obj out x k → Means new more x k
  means_move x Loose (inl s) = inl (small_move x s)
  means_move x Loose (inr s) = inr (s.0, shows_move x s.0 s.1)
  means_move x Small s = small_move x s
  means_move x (Handle t zero) s = s
  means_move x (Handle t (suc j)) s = (s.0, s.1, box_move t j s.0 s.2)
  means_move x (Item slot) s = (small_move x s.0, s.1)

-- ---- registers at rest

-- what register q holds, and how many blocks that carries
abbrev pub low_rest : ℕ → Lasting Slot Other
low_rest q = cond (q == 1) (Meant Loose) (cond (q == 2) Plain (Meant Small))

abbrev pub rest : ℕ → (ℕ → ℕ) → ℕ → Lasting Slot Other
rest t last q =
    cond (ltb q 4) (low_rest q) (cond (ltb q 12) (Meant (Handle t (last (q - 4)))) Plain)

abbrev pub limit : ℕ → ℕ
limit q = cond (ltb q 4) (cond (q == 1) 2 (cond (q == 2) 0 1)) (cond (ltb q 12) 2 0)

abbrev pub weigh : Other → ℕ
weigh Small = 1
weigh (Item slot) = 1
weigh _ = 2

-- what holds of each kind of register holds of register q
pub by_kind : (P : ℕ → Lasting Slot Other → Type 0) (t : ℕ) (last : ℕ → ℕ) → P 2 (Meant Loose)
    → P 0 Plain → P 1 (Meant Small) → ((h : ℕ) → P 2 (Meant (Handle t (last h))))
    → (q : ℕ) → P (limit q) (rest t last q)
by_kind P t last loose plain small handle q = chosen (ltb q 4) (q == 1) (q == 2) (ltb q 12)
  where
    chosen : (low one two far : Bool) → P (cond low (cond one 2 (cond two 0 1)) (cond far 2 0))
        (cond low (cond one (Meant Loose) (cond two Plain (Meant Small)))
        (cond far (Meant (Handle t (last (q - 4)))) Plain))
    chosen true true two far = loose
    chosen true false true far = plain
    chosen true false false far = small
    chosen false one two true = handle (q - 4)
    chosen false one two false = plain

pub rests_light : (t : ℕ) (last : ℕ → ℕ) (q : ℕ)
    → light_lasting {Cell = Slot} 2 weigh (limit q) (rest t last q) ≡ true
rests_light t last =
    by_kind (λ m y. light_lasting {Cell = Slot} 2 weigh m y ≡ true) t last refl refl refl
    (λ h. refl)

-- the register of h
pub handle_rest : (t : ℕ) (last : ℕ → ℕ) (h : ℕ) → h < 8
    → rest t last (4 + h) ≡ Meant (Handle t (last h))
handle_rest t last h low =
    let same : 4 + h - 4 ≡ h = omega arith in
    rw (le-ltb (4 + h) 4 (omega arith), lt-ltb (4 + h) 12 (omega arith))
    (ap (λ (k : ℕ). let y : Lasting Slot Other = Meant (Handle t (last k)) in y) same)

pub handle_limit : (h : ℕ) → h < 8 → limit (4 + h) ≡ 2
handle_limit h low = rw (le-ltb (4 + h) 4 (omega arith), lt-ltb (4 + h) 12 (omega arith))

-- ---- how many blocks they take

-- an item and its box, which refers to it
abbrev pub two : ℕ → Sym → Sym → List (List Sym)
two x v w = (Number x ∷ []) ∷ (v ∷ w ∷ []) ∷ []

module _ (g : Graph) where
  carries_box : (out : ℕ → ℕ) (t j x : ℕ) → IsBox (object_of g) out t j x
      → Carries Eight g (box_name t j) 2
  carries_box out t j x s = carries_own t (2 * j) g (two x (Own 0) (Number (id t j))) own 2 1 refl
    where
      own : (k : ℕ) → k < 2 → object_of g (own_name t (2 * j) k)
          ≡ record_of t (2 * j) (get_or (two x (Own 0) (Number (id t j))) k [])
      own zero low = s.0.is
      own (suc zero) low = s.1.is
      own (suc (suc k)) low = absurd (omega arith)

  pub of_shown : (out : ℕ → ℕ) (v : Value) (slot : Slot) (a : Name) → Shows (object_of g) out v slot
      → v ≡ Ref a → Carries Eight g a 2
  of_shown out (Ref b) (Some c) a s e =
      let same : b ≡ a = cc in
      subst (λ (d : Name). Carries Eight g d 2) (sym s.0 ∙ same) (carries_box out c.0 c.1 c.2 s.1)
  of_shown out (Ref b) None a s e = absurd s
  of_shown out _ slot a s e = absurd cc

  of_small : (out : ℕ → ℕ) (v : Value) (a : Name) → IsSmall (object_of g) out v → v ≡ Ref a
      → Carries Eight g a 1
  of_small out (Ref b) a s e =
      carries_shown g out (Ref b) (Some (Int s.0 ∷ [])) a s.1
      (omega arith, plain_numbers (s.0 ∷ [])) e
  of_small out _ a s e = absurd cc

  pub of_meant : (out : ℕ → ℕ) (v : Value) (k : Other) (a : Name) → Means (object_of g) out v k
      → v ≡ Ref a → Carries Eight g a (weigh k)
  of_meant out v Loose a (inl s) e =
      let c = of_small out v a s e in record { inner = c.inner; weight = omega (arith, c.weight) }
  of_meant out v Loose a (inr s) e = of_shown out v s.0 a s.1 e
  of_meant out v Small a s e = of_small out v a s e
  of_meant out v (Handle t zero) a s e = let bad : Nil ≡ Ref a = sym s ∙ e in absurd cc
  of_meant out v (Handle t (suc j)) a s e =
      let named : Ref (box_name t j) ≡ Ref a = sym s.1 ∙ e in
      let same : box_name t j ≡ a = cc in
      subst (λ (d : Name). Carries Eight g d 2) same (carries_box out t j s.0 s.2)
  of_meant out v (Item slot) a s e = of_small out v a s.0 e
