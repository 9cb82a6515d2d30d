-- What keeps a chain, and how it is taken apart.
use Rattle.std.proofs.Common.{◌≡◌, ℕ, ◌≤◌, cond, eqb, refl, arith, subst, sym, ap, ◌∙◌, List, [], ◌∷◌, length, false, inl, inr, eq-eqb, ne_eqb}
use Rattle.std.proofs.lemmas.Bool.{cases_eq, cases_lt}
use Rattle.block_store.specs.Phases.{bit}
use Rattle.block_store.specs.Colours.{link}
use Rattle.heap_machine.specs.Chains.{Chain}
use Rattle.block_store.specs.Counts.{times}
use Rattle.block_store.proofs.Lemmas.{bit_zero}

-- the chain from 0 has no block
pub Chain-zero : (c : ℕ → ℕ) (xs : List ℕ) → Chain c 0 xs → xs ≡ []
Chain-zero c [] k = refl
Chain-zero c (x ∷ xs) k = absurd (k.1 (sym k.0))

-- the chain from another number begins with its block
pub Chain-step : (c : ℕ → ℕ) (a : ℕ) (xs : List ℕ) → Chain c a xs → (a ≡ 0 → ⊥) → (ys : List ℕ) × (xs ≡ a ∷ ys) × Chain c (link (c a)) ys
Chain-step c a [] k ne = absurd (ne k)
Chain-step c a (x ∷ xs) k ne = (xs, ap (λ y. y ∷ xs) (sym k.0), subst (λ y. Chain c (link (c y)) xs) (sym k.0) k.2)

-- a write of a colour word outside the chain keeps it
pub Chain-outside : (c : ℕ → ℕ) (y v : ℕ) (xs : List ℕ) (a : ℕ) → times y xs ≡ 0 → Chain c a xs → Chain (λ x. cond (eqb y x) v (c x)) a xs
Chain-outside c y v [] a out k = k
Chain-outside c y v (x ∷ xs) a out k =
    let e : eqb y x ≡ false = bit_zero (eqb y x) (omega arith) in
    let rest = Chain-outside c y v xs (link (c x)) (omega arith) k.2 in
    rw e (k.0, k.1, rest)

-- two chains from one number are one
pub Chain-one : (c : ℕ → ℕ) (a : ℕ) (xs ys : List ℕ) → Chain c a xs → Chain c a ys → xs ≡ ys
Chain-one c a [] ys k l = sym (Chain-zero c ys (rw k at l))
Chain-one c a (x ∷ xs) [] k l = absurd (k.1 (sym k.0 ∙ l))
Chain-one c a (x ∷ xs) (y ∷ ys) k l =
    let e : x ≡ y = sym k.0 ∙ l.0 in
    let tail = Chain-one c (link (c x)) xs ys k.2 (subst (λ z. Chain c (link (c z)) ys) (sym e) l.2) in
    rw (e, tail) refl

-- a write of a colour word whose link is the chain's first block puts its block in front
pub Chain-front : (c : ℕ → ℕ) (y v a : ℕ) (xs : List ℕ) → (y ≡ 0 → ⊥) → link v ≡ a → times y xs ≡ 0 → Chain c a xs → Chain (λ x. cond (eqb y x) v (c x)) y (y ∷ xs)
Chain-front c y v a xs ne l out k = (refl, ne, rw (eq-eqb y y refl, l) (Chain-outside c y v xs a out k))

-- from each block of a chain there is a chain, and it is no longer
Chain-from : (c : ℕ → ℕ) (a x : ℕ) (xs : List ℕ) → Chain c a xs → 1 ≤ times x xs → (ys : List ℕ) × Chain c x ys × (length ys ≤ length xs)
Chain-from c a x [] k some = absurd (omega arith)
Chain-from c a x (y ∷ ys) k some = elim (cases_eq x y) [
  | inl e ↦ (y ∷ ys, (e, k.1, k.2), omega arith)
  | inr ne ↦
      let b : bit (eqb x y) ≡ 0 = ap bit (ne_eqb x y ne) in
      let r = Chain-from c (link (c y)) x ys k.2 (omega arith) in
      (r.0, r.1, omega (arith, r.2))
]

-- a chain has no block twice
pub Chain-once : (c : ℕ → ℕ) (a x : ℕ) (xs : List ℕ) → Chain c a xs → times x xs ≤ 1
Chain-once c a x [] k = omega arith
Chain-once c a x (y ∷ ys) k = elim (cases_eq x y) [
  | inl e ↦ elim (cases_lt (times x ys) 1) [
    | inl none ↦ rw (eq-eqb x y e) (omega arith)
    | inr some ↦
        let r = Chain-from c (link (c y)) x ys k.2 some in
        let same : y ∷ ys ≡ r.0 = Chain-one c x (y ∷ ys) r.0 (e, k.1, k.2) r.1 in
        let long : length (y ∷ ys) ≡ length r.0 = ap length same in
        absurd (omega (arith, r.2))
  ]
  | inr ne ↦ let rest = Chain-once c (link (c y)) x ys k.2 in rw (ne_eqb x y ne) (omega arith)
]
