-- Functions that change at one number, and sums over them.
use Rattle.std.proofs.Common.{◌≡◌, ℕ, zero, suc, ◌+◌, ◌≤◌, ◌<◌, Bool, true, false, refl, arith, ap, sym, ◌∙◌, inl, inr, eq-eqb, ne_eqb}
use Rattle.std.proofs.lemmas.Bool.{cases_eq}
use Rattle.block_store.specs.Phases.{bit}
use Rattle.block_store.specs.Counts.{changed, total}

-- functions that agree everywhere are one
pub funext : {A B : Type 0} (f g : A → B) → ((x : A) → f x ≡ g x) → f ≡ g
funext f g h = λ i x. h x i

pub bit_zero : (b : Bool) → bit b ≡ 0 → b ≡ false
bit_zero true h = cc
bit_zero false h = refl

pub bit_one : (b : Bool) → 1 ≤ bit b → b ≡ true
bit_one true h = refl
bit_one false h = absurd (omega arith)

pub bit_le : (b : Bool) → bit b ≤ 1
bit_le true = omega arith
bit_le false = omega arith

pub changed_here : {A : Type 0} (f : ℕ → A) (t : ℕ) (v : A) → changed f t v t ≡ v
changed_here f t v = rw (eq-eqb t t refl) refl

pub changed_else : {A : Type 0} (f : ℕ → A) (t u : ℕ) (v : A) → (t ≡ u → ⊥) → changed f t v u ≡ f u
changed_else f t u v ne = rw (ne_eqb t u ne) refl

-- what holds of the new value at t, and of the old ones elsewhere, holds of a changed function
pub changed_both : {A : Type 0} (P : ℕ → A → Type 0) (f : ℕ → A) (t : ℕ) (v : A) (u : ℕ) → (t ≡ u → P u v) → ((t ≡ u → ⊥) → P u (f u)) → P u (changed f t v u)
changed_both P f t v u here away = elim (cases_eq t u) [
  | inl e ↦ rw (eq-eqb t u e) (here e)
  | inr ne ↦ rw (ne_eqb t u ne) (away ne)
]

-- a part of a changed function is the part, changed
pub changed_map : {A B : Type 0} (g : A → B) (f : ℕ → A) (t : ℕ) (v : A)
    → (λ u. g (changed f t v u)) ≡ changed (λ u. g (f u)) t (g v)
changed_map g f t v = funext _ _ (λ u. elim (cases_eq t u) [
  | inl e ↦ rw (eq-eqb t u e) refl
  | inr ne ↦ rw (ne_eqb t u ne) refl
])

-- to change a function to what it is there changes nothing
pub changed_self : {A : Type 0} (f : ℕ → A) (t : ℕ) (v : A) → f t ≡ v → changed f t v ≡ f
changed_self f t v is = funext _ _ (λ u. elim (cases_eq t u) [
  | inl e ↦ rw (eq-eqb t u e) (sym is ∙ ap f e)
  | inr ne ↦ rw (ne_eqb t u ne) refl
])

total_above : {A : Type 0} (g : A → ℕ) (n : ℕ) (f : ℕ → A) (t : ℕ) (v : A) → n ≤ t → total n (λ u. g (changed f t v u)) ≡ total n (λ u. g (f u))
total_above g zero f t v h = refl
total_above g (suc n) f t v h =
    let e = total_above g n f t v (omega arith) in
    let ne : t ≡ n → ⊥ = omega arith in
    rw (e, ne_eqb t n ne) refl

-- a sum after one part has changed
pub total_changed : {A : Type 0} (g : A → ℕ) (n : ℕ) (f : ℕ → A) (t : ℕ) (v : A) → t < n → total n (λ u. g (changed f t v u)) + g (f t) ≡ total n (λ u. g (f u)) + g v
total_changed g zero f t v h = absurd (omega arith)
total_changed g (suc n) f t v h = elim (cases_eq t n) [
  | inl e ↦
      let above = total_above g n f t v (omega arith) in
      let same : g (f t) ≡ g (f n) = ap (λ u. g (f u)) e in
      rw (above, eq-eqb t n e) (omega arith)
  | inr ne ↦
      let below = total_changed g n f t v (omega arith) in
      rw (ne_eqb t n ne) (omega arith)
]

-- a part is at most the sum
pub total_part : (n : ℕ) (f : ℕ → ℕ) (t : ℕ) → t < n → f t ≤ total n f
total_part zero f t h = absurd (omega arith)
total_part (suc n) f t h = elim (cases_eq t n) [
  | inl e ↦ let same : f t ≡ f n = ap f e in omega arith
  | inr ne ↦ let below = total_part n f t (omega arith) in omega arith
]

-- two parts are at most the sum
pub total_parts : (n : ℕ) (f : ℕ → ℕ) (t u : ℕ) → t < n → u < n → (t ≡ u → ⊥) → f t + f u ≤ total n f
total_parts zero f t u h k ne = absurd (omega arith)
total_parts (suc n) f t u h k ne = elim (cases_eq t n) [
  | inl e ↦
      let same : f t ≡ f n = ap f e in
      let part = total_part n f u (omega arith) in omega arith
  | inr nt ↦ elim (cases_eq u n) [
    | inl e ↦
        let same : f u ≡ f n = ap f e in
        let part = total_part n f t (omega arith) in omega arith
    | inr nu ↦ let below = total_parts n f t u (omega arith) (omega arith) ne in omega arith
  ]
]

-- at most n of n are so
pub total_bits : (n : ℕ) (f : ℕ → Bool) → total n (λ u. bit (f u)) ≤ n
total_bits zero f = omega arith
total_bits (suc n) f = omega (arith, total_bits n f, bit_le (f n))

-- a sum of nothing
pub total_none : (n : ℕ) (f : ℕ → ℕ) → ((u : ℕ) → u < n → f u ≡ 0) → total n f ≡ 0
total_none zero f h = refl
total_none (suc n) f h = omega (arith, total_none n f (λ u low. h u (omega arith)), h n (omega arith))

-- sums of the same
pub total_same : (n : ℕ) (f g : ℕ → ℕ) → ((u : ℕ) → u < n → f u ≡ g u) → total n f ≡ total n g
total_same zero f g h = refl
total_same (suc n) f g h = omega (arith, total_same n f g (λ u low. h u (omega arith)), h n (omega arith))
