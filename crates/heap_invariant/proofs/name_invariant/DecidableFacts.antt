-- Facts that computing decides, each with its proof where it holds.
use Rattle.std.proofs.Common.{◌≡◌, ◌≢◌, ℕ, zero, suc, ◌≤◌, ◌<◌, inl, inr, Bool, true, false, eqb, ltb, refl, arith, subst, Option, Some, None, is_some, eqb-true, ltb-true, eq-eqb}
use Rattle.std.proofs.lemmas.Bool.{cases_lt}
use Rattle.heap_invariant.proofs.name_invariant.Colours.{differ}

-- what was decided, where it holds
pub decided : {A : Type 0} (o : Option A) → is_some o ≡ true → A
decided (Some a) h = a
decided None h = absurd (let z : false ≡ true = h in cc)

abbrev pub mapped : {A B : Type 0} → (A → B) → Option A → Option B
mapped f None = None
mapped f (Some a) = Some (f a)

infixr 6 ◌&◌
abbrev pub ◌&◌ : {A B : Type 0} → Option A → Option B → Option (A × B)
None & q = None
Some a & None = None
Some a & Some b = Some (a, b)

abbrev pub three : {A B C : Type 0} → Option A → Option B → Option C → Option (A × B × C)
three a b c = mapped (λ p. (p.0, p.1.0, p.1.1)) (a & b & c)

abbrev pub four : {A B C D : Type 0} → Option A → Option B → Option C → Option D
    → Option (A × B × C × D)
four a b c d = mapped (λ p. (p.0, p.1.0, p.1.1.0, p.1.1.1)) (a & b & c & d)

abbrev pub five : {A B C D E : Type 0} → Option A → Option B → Option C → Option D → Option E
    → Option (A × B × C × D × E)
five a b c d e = mapped (λ p. (p.0, p.1.0, p.1.1.0, p.1.1.1.0, p.1.1.1.1)) (a & b & c & d & e)

abbrev pub if_true : {A : Type 0} (b : Bool) → (b ≡ true → A) → Option A
if_true true f = Some (f refl)
if_true false f = None

abbrev pub if_false : {A : Type 0} (b : Bool) → (b ≡ false → A) → Option A
if_false true f = None
if_false false f = Some (f refl)

abbrev pub is_bool : (a b : Bool) → Option (a ≡ b)
is_bool true true = Some refl
is_bool false false = Some refl
is_bool true false = None
is_bool false true = None

abbrev pub below : (a b : ℕ) → Option (a < b)
below a b = if_true (ltb a b) (λ h. ltb-true a b h)

pub no_more : (a b : ℕ) → a < suc b → a ≤ b
no_more a b l = omega arith

abbrev pub at_most : (a b : ℕ) → Option (a ≤ b)
at_most a b = mapped (no_more a b) (below a (suc b))

abbrev pub equal : (a b : ℕ) → Option (a ≡ b)
equal a b = if_true (eqb a b) (λ h. eqb-true a b h)

abbrev pub unequal : (a b : ℕ) → Option (a ≢ b)
unequal a b = if_false (eqb a b) (λ h e. differ _ (eq-eqb a b e) h)

-- what holds only where two numbers are equal, or one is less
abbrev pub if_equal : {A : Type 0} (a b : ℕ) → Option A → Option (a ≡ b → A)
if_equal a b (Some p) = Some (λ e. p)
if_equal a b None = if_false (eqb a b) (λ h e. absurd (differ _ (eq-eqb a b e) h))

abbrev pub is_none : {A : Type 0} (o : Option A) → Option (o ≡ None)
is_none None = Some refl
is_none (Some a) = None

-- what holds of each number below n
pub step : (P : ℕ → Type 0) (n : ℕ) → ((j : ℕ) → j < n → P j) → P n → (j : ℕ) → j < suc n → P j
step P n f p j l = elim (cases_lt j n) [
  | inl low ↦ f j low
  | inr high ↦ let e : n ≡ j = omega arith in subst P e p
]

abbrev pub each_below : (P : ℕ → Type 0) (n : ℕ) → ((j : ℕ) → Option (P j))
    → Option ((j : ℕ) → j < n → P j)
each_below P zero d = Some (λ j l. absurd (omega arith))
each_below P (suc n) d = mapped (λ p. step P n p.0 p.1) (each_below P n d & d n)
