-- Places with one index are one, by the place that an index has.
use Rattle.std.proofs.Common.{suc, mul_comm, mul-suc, ◌≡◌, ℕ, ◌+◌, ◌*◌, ◌-◌, ◌/◌, ◌%◌, ◌≤◌, ◌<◌, true, false, eqb, ltb, refl, arith, sym, ap, ◌∙◌, List, length, set, inl, inr, eqb-true, eq-eqb, get_or-set_same, get_or-set_other, ltb-true, leb-true, leb}
use Rattle.std.proofs.lemmas.Bool.{and_parts, cases_Bool, and_from, le-leb}
use Rattle.std.proofs.lemmas.Bool.Decides.{nat_tests}
use Rattle.std.proofs.lemmas.Nat.{div-mul-add, mod-mul-add, mul-le}
use Rattle.block_store.specs.Places.{Extent, Place, Phase, Cursor, FreeCount, GreyList, FreeList, ColourOf, OwnerOf, ShapeOf, PayloadOf, in_range, is_block, index, block_size, block_index, words_count, same_place, in_block, place_at, extent, IsBlock}
use Rattle.block_store.specs.Widths.{payloads}
use Rattle.block_store.specs.Heaps.{heap_of, put_at}
use Rattle.block_store.specs.declared.Config.{Config}

at_block : (e : Extent) (x k : ℕ) → 1 ≤ x → k < block_size e
    → place_at e (block_index e x + k) ≡ in_block x k
at_block e x k pos low =
    let o = block_size e * (x - 1) in
    let a : ltb (3 + 2 * e.threads + o + k) 3 ≡ false = grind (arith, nat_tests) in
    let b : ltb (3 + 2 * e.threads + o + k) (3 + e.threads) ≡ false = grind (arith, nat_tests) in
    let d : ltb (3 + 2 * e.threads + o + k) (3 + 2 * e.threads) ≡ false =
    grind (arith, nat_tests) in
    let turned = mul_comm (block_size e) (x - 1) in
    let s : (3 + 2 * e.threads + o + k) - (3 + 2 * e.threads) ≡ (x - 1) * block_size e + k =
    omega (arith, turned) in
    let q : ((x - 1) * block_size e + k) / block_size e + 1 ≡ x =
    omega (arith, div-mul-add (x - 1) (block_size e) k low) in
    let r : ((x - 1) * block_size e + k) % block_size e ≡ k =
    mod-mul-add (x - 1) (block_size e) k low in
    rw (a, b, d, s, q, r) refl

-- what the range says of a block
block_low : (e : Extent) (x : ℕ) → is_block e x ≡ true → (1 ≤ x) × (x ≤ e.blocks)
block_low e x h = let p = and_parts _ _ h in (leb-true 1 x p.0, leb-true x e.blocks p.1)

-- the place that an index has is the one whose index it is
pub back : (e : Extent) (p : Place) → in_range e p ≡ true → place_at e (index e p) ≡ p
back e Phase h = refl
back e Cursor h = refl
back e FreeCount h = refl
back e (GreyList t) h =
    let low : t < e.threads = ltb-true t e.threads h in
    let a : ltb (3 + t) 3 ≡ false = grind (arith, nat_tests) in
    let b : ltb (3 + t) (3 + e.threads) ≡ true = grind (arith, nat_tests) in
    let s : (3 + t) - 3 ≡ t = omega arith in
    rw (a, b, s) refl
back e (FreeList t) h =
    let low : t < e.threads = ltb-true t e.threads h in
    let a : ltb (3 + e.threads + t) 3 ≡ false = grind (arith, nat_tests) in
    let b : ltb (3 + e.threads + t) (3 + e.threads) ≡ false = grind (arith, nat_tests) in
    let d : ltb (3 + e.threads + t) (3 + 2 * e.threads) ≡ true = grind (arith, nat_tests) in
    let s : (3 + e.threads + t) - (3 + e.threads) ≡ t = omega arith in
    rw (a, b, d, s) refl
back e (ColourOf x) h =
    let z : block_index e x ≡ block_index e x + 0 = omega arith in
    rw z (at_block e x 0 (block_low e x h).0 (omega arith))
back e (OwnerOf x) h = at_block e x 1 (block_low e x h).0 (omega arith)
back e (ShapeOf x) h = at_block e x 2 (block_low e x h).0 (omega arith)
back e (PayloadOf x j) h =
    let parts = and_parts (is_block e x) (ltb j (payloads e.width)) h in
    let low : j < payloads e.width = ltb-true j (payloads e.width) parts.1 in
    let a : eqb (3 + j) 0 ≡ false = grind (arith, nat_tests) in
    let b : eqb (3 + j) 1 ≡ false = grind (arith, nat_tests) in
    let d : eqb (3 + j) 2 ≡ false = grind (arith, nat_tests) in
    let s : (3 + j) - 3 ≡ j = omega arith in
    at_block e x (3 + j) (block_low e x parts.0).0 (omega arith) ∙ rw (a, b, d, s) refl

pub differ : (e : Extent) (p q : Place) → in_range e p ≡ true → in_range e q ≡ true
    → index e p ≡ index e q → p ≡ q
differ e p q a b i = sym (back e p a) ∙ ap (place_at e) i ∙ back e q b

-- k words after the colour of a block are below the number of words
in_words : (e : Extent) (x k : ℕ) → is_block e x ≡ true → k < block_size e
    → block_index e x + k < words_count e
in_words e x k h low =
    let b = block_low e x h in
    let more : block_size e * suc (x - 1) ≤ block_size e * e.blocks =
    mul-le (block_size e) (suc (x - 1)) (block_size e) e.blocks (omega arith) (omega arith) in
    let split : block_size e * suc (x - 1) ≡ block_size e * (x - 1) + block_size e =
    mul-suc (block_size e) (x - 1) in
    omega arith

pub below : (e : Extent) (p : Place) → in_range e p ≡ true → index e p < words_count e
below e Phase h = omega arith
below e Cursor h = omega arith
below e FreeCount h = omega arith
below e (GreyList t) h = omega (arith, ltb-true t e.threads h)
below e (FreeList t) h = omega (arith, ltb-true t e.threads h)
below e (ColourOf x) h = omega (arith, in_words e x 0 h (omega arith))
below e (OwnerOf x) h = in_words e x 1 h (omega arith)
below e (ShapeOf x) h = in_words e x 2 h (omega arith)
below e (PayloadOf x j) h =
    let parts = and_parts _ _ h in
    in_words e x (3 + j) parts.0 (omega (arith, ltb-true j (payloads e.width) parts.1))

-- places that the test calls one are one
pub one_place : (p q : Place) → same_place p q ≡ true → p ≡ q
one_place Phase Phase h = refl
one_place Cursor Cursor h = refl
one_place FreeCount FreeCount h = refl
one_place (GreyList t) (GreyList u) h = ap GreyList (eqb-true t u h)
one_place (FreeList t) (FreeList u) h = ap FreeList (eqb-true t u h)
one_place (ColourOf x) (ColourOf y) h = ap ColourOf (eqb-true x y h)
one_place (OwnerOf x) (OwnerOf y) h = ap OwnerOf (eqb-true x y h)
one_place (ShapeOf x) (ShapeOf y) h = ap ShapeOf (eqb-true x y h)
one_place (PayloadOf x j) (PayloadOf y k) h =
    let a = and_parts (eqb x y) (eqb j k) h in
    let e = eqb-true x y a.0 in
    let f = eqb-true j k a.1 in
    rw (e, f) refl
one_place _ _ h = cc

pub itself : (p : Place) → same_place p p ≡ true
itself Phase = refl
itself Cursor = refl
itself FreeCount = refl
itself (GreyList t) = eq-eqb t t refl
itself (FreeList t) = eq-eqb t t refl
itself (ColourOf x) = eq-eqb x x refl
itself (OwnerOf x) = eq-eqb x x refl
itself (ShapeOf x) = eq-eqb x x refl
itself (PayloadOf x j) = rw (eq-eqb x x refl, eq-eqb j j refl) refl

-- a write of the word at a place, seen at each place
pub heap_of-set : (e : Extent) (ws : List ℕ) (p : Place) (v : ℕ) → in_range e p ≡ true
    → words_count e ≤ length ws → (q : Place)
    → heap_of e (set ws (index e p) v) q ≡ put_at (heap_of e ws) p v q
heap_of-set e ws p v inp long q = elim (cases_Bool (in_range e q)) [
  | inr out ↦ elim (cases_Bool (same_place p q)) [
    | inl s ↦ absurd (let o = one_place p q s in
        let t : true ≡ false = sym inp ∙ ap (in_range e) o ∙ out in cc)
    | inr s ↦ rw (out, s) refl
  ]
  | inl inq ↦ elim (cases_Bool (same_place p q)) [
    | inl s ↦
        let o = one_place p q s in
        let low : index e p < length ws = omega (arith, below e p inp) in
        rw (inq, s, ← o) (get_or-set_same ws (index e p) v 0 low)
    | inr s ↦
        let ne : index e q ≡ index e p → ⊥ = λ i. let o = differ e q p inq inp i in
        let t : true ≡ false = sym (itself p) ∙ ap (same_place p) (sym o) ∙ s in cc in
        rw (inq, s) (get_or-set_other ws (index e p) (index e q) v 0 ne)
  ]
]

-- a write of the word at a place is a write of the place
pub heap_of-put : (e : Extent) (ws : List ℕ) (p : Place) (v : ℕ) → in_range e p ≡ true
    → words_count e ≤ length ws → heap_of e (set ws (index e p) v) ≡ put_at (heap_of e ws) p v
heap_of-put e ws p v inp long = λ i q. heap_of-set e ws p v inp long q i

-- which numbers are blocks
pub block_is : (e : Extent) (y : ℕ) → 1 ≤ y → y ≤ e.blocks → is_block e y ≡ true
block_is e y some low = and_from _ _ (le-leb 1 y some) (le-leb y e.blocks low)

pub block_in : (c : Config) (x : ℕ) → IsBlock c x → is_block (extent c) x ≡ true
block_in c x h = let low : leb 1 x ≡ true = le-leb 1 x h.0 in rw low (le-leb x c.blocks h.1)

-- a hand that is not 0 is a block
pub hand_block : (c : Config) (a : ℕ) → (a ≡ 0 → ⊥) → a ≤ c.blocks → IsBlock c a
hand_block c a ne high = (omega arith, high)
