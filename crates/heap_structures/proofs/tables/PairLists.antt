-- Pairs with rising keys, cut at a key.
use Rattle.std.proofs.Common.{◌≡◌, ◌≢◌, ℕ, zero, suc, ◌<◌, ◌≤◌, lt-ltb, eq-eqb, inl, inr, Some, None, List, [], ◌∷◌, ◌++◌, length, sym, refl, ap, ◌∙◌, subst, arith}
use Rattle.std.specs.List.{AllByRecursion}
use Rattle.std.proofs.lemmas.Bool.{cases_eq, cases_lt, le-ltb, ne_eqb}
use Rattle.block_store.specs.declared.Value.{Value}
use Rattle.heap_structures.specs.Pairs.{Pair, IsRising, above, below, pair_at, value_of}

-- ---- what holds of all

pub all_as : (P Q : Pair → Type 0) (xs : List Pair) → ((x : Pair) → P x → Q x)
    → AllByRecursion P xs → AllByRecursion Q xs
all_as P Q [] f all = tt
all_as P Q (x ∷ xs) f all = (f x all.0, all_as P Q xs f all.1)

pub all_join : (P : Pair → Type 0) (b a : List Pair) → AllByRecursion P b → AllByRecursion P a
    → AllByRecursion P (b ++ a)
all_join P [] a l r = r
all_join P (x ∷ b) a l r = (l.0, all_join P b a l.1 r)

-- ---- one pair more

below_less : (k : ℕ) (x : Pair) (xs : List Pair) → x.0 < k → below k (x ∷ xs) ≡ x ∷ below k xs
below_less k x xs l = rw (lt-ltb x.0 k l) refl

below_more : (k : ℕ) (x : Pair) (xs : List Pair) → k ≤ x.0 → below k (x ∷ xs) ≡ below k xs
below_more k x xs m = rw (le-ltb x.0 k m) refl

above_more : (k : ℕ) (x : Pair) (xs : List Pair) → k < x.0 → above k (x ∷ xs) ≡ x ∷ above k xs
above_more k x xs l = rw (lt-ltb k x.0 l) refl

above_less : (k : ℕ) (x : Pair) (xs : List Pair) → x.0 ≤ k → above k (x ∷ xs) ≡ above k xs
above_less k x xs m = rw (le-ltb k x.0 m) refl

-- ---- the two parts

pub all_below : (k : ℕ) (xs : List Pair) → AllByRecursion (λ x. x.0 < k) (below k xs)
all_below k [] = tt
all_below k (x ∷ xs) = elim (cases_lt x.0 k) [
  | inl l ↦ subst (AllByRecursion (λ x. x.0 < k)) (sym (below_less k x xs l)) (l, all_below k xs)
  | inr m ↦ subst (AllByRecursion (λ x. x.0 < k)) (sym (below_more k x xs m)) (all_below k xs)
]

pub all_above : (k : ℕ) (xs : List Pair) → AllByRecursion (λ x. k < x.0) (above k xs)
all_above k [] = tt
all_above k (x ∷ xs) = elim (cases_lt k x.0) [
  | inl l ↦ subst (AllByRecursion (λ x. k < x.0)) (sym (above_more k x xs l)) (l, all_above k xs)
  | inr m ↦ subst (AllByRecursion (λ x. k < x.0)) (sym (above_less k x xs m)) (all_above k xs)
]

-- what holds of all pairs holds of the parts
pub in_below : (P : Pair → Type 0) (k : ℕ) (xs : List Pair) → AllByRecursion P xs
    → AllByRecursion P (below k xs)
in_below P k [] all = tt
in_below P k (x ∷ xs) all = elim (cases_lt x.0 k) [
  | inl l ↦ subst (AllByRecursion P) (sym (below_less k x xs l)) (all.0, in_below P k xs all.1)
  | inr m ↦ subst (AllByRecursion P) (sym (below_more k x xs m)) (in_below P k xs all.1)
]

pub in_above : (P : Pair → Type 0) (k : ℕ) (xs : List Pair) → AllByRecursion P xs
    → AllByRecursion P (above k xs)
in_above P k [] all = tt
in_above P k (x ∷ xs) all = elim (cases_lt k x.0) [
  | inl l ↦ subst (AllByRecursion P) (sym (above_more k x xs l)) (all.0, in_above P k xs all.1)
  | inr m ↦ subst (AllByRecursion P) (sym (above_less k x xs m)) (in_above P k xs all.1)
]

-- ---- they rise

rising_below : (k : ℕ) (xs : List Pair) → IsRising xs → IsRising (below k xs)
rising_below k [] up = tt
rising_below k (x ∷ xs) up = elim (cases_lt x.0 k) [
  | inl l ↦ subst IsRising (sym (below_less k x xs l))
      (in_below (λ y. x.0 < y.0) k xs up.0, rising_below k xs up.1)
  | inr m ↦ subst IsRising (sym (below_more k x xs m)) (rising_below k xs up.1)
]

rising_above : (k : ℕ) (xs : List Pair) → IsRising xs → IsRising (above k xs)
rising_above k [] up = tt
rising_above k (x ∷ xs) up = elim (cases_lt k x.0) [
  | inl l ↦ subst IsRising (sym (above_more k x xs l))
      (in_above (λ y. x.0 < y.0) k xs up.0, rising_above k xs up.1)
  | inr m ↦ subst IsRising (sym (above_less k x xs m)) (rising_above k xs up.1)
]

rising_join : (k : ℕ) (b a : List Pair) → AllByRecursion (λ x. x.0 < k) b → IsRising b
    → AllByRecursion (λ x. k ≤ x.0) a → IsRising a → IsRising (b ++ a)
rising_join k [] a low up high rest = rest
rising_join k (x ∷ b) a low up high rest = (
  all_join (λ y. x.0 < y.0) b a up.0
      (all_as (λ y. k ≤ y.0) (λ y. x.0 < y.0) a (λ y l. let f = low.0 in omega (arith, l, f)) high),
  rising_join k b a low.1 up.1 high rest,
)

pub rising_without : (k : ℕ) (xs : List Pair) → IsRising xs → IsRising (below k xs ++ above k xs)
rising_without k xs up =
    rising_join k (below k xs) (above k xs) (all_below k xs) (rising_below k xs up)
    (all_as (λ y. k < y.0) (λ y. k ≤ y.0) (above k xs) (λ y l. omega (arith, l)) (all_above k xs))
    (rising_above k xs up)

pub rising_with : (k : ℕ) (v : Value) (xs : List Pair) → IsRising xs
    → IsRising (below k xs ++ (k, v) ∷ above k xs)
rising_with k v xs up =
    rising_join k (below k xs) ((k, v) ∷ above k xs) (all_below k xs) (rising_below k xs up)
    (omega arith, all_as (λ y. k < y.0) (λ y. k ≤ y.0) (above k xs) (λ y l. omega (arith, l)) (all_above k xs))
    (all_above k xs, rising_above k xs up)

-- ---- where all keys are larger

below_none : (k : ℕ) (xs : List Pair) → AllByRecursion (λ x. k < x.0) xs → below k xs ≡ []
below_none k [] all = refl
below_none k (x ∷ xs) all =
    let l = all.0 in below_more k x xs (omega (arith, l)) ∙ below_none k xs all.1

above_same : (k : ℕ) (xs : List Pair) → AllByRecursion (λ x. k < x.0) xs → above k xs ≡ xs
above_same k [] all = refl
above_same k (x ∷ xs) all = above_more k x xs all.0 ∙ ap (λ ys. x ∷ ys) (above_same k xs all.1)

past : (k : ℕ) (x : Pair) (xs : List Pair) → k ≤ x.0 → AllByRecursion (λ y. x.0 < y.0) xs
    → AllByRecursion (λ y. k < y.0) xs
past k x xs m all =
    all_as (λ y. x.0 < y.0) (λ y. k < y.0) xs (λ y l. omega (arith, l, m)) all

-- ---- the value of a key

pub value_here : (k : ℕ) (w : Value) (b a : List Pair) → AllByRecursion (λ x. x.0 < k) b
    → value_of k (b ++ (k, w) ∷ a) ≡ Some w
value_here k w [] a low = rw (eq-eqb k k refl) refl
value_here k w (x ∷ b) a low =
    let l = low.0 in
    rw (ne_eqb x.0 k (λ e. absurd (omega (arith, l, e)))) (value_here k w b a low.1)

value_past : (k : ℕ) (a : List Pair) → AllByRecursion (λ x. k < x.0) a → value_of k a ≡ None
value_past k [] high = refl
value_past k (x ∷ a) high =
    let l = high.0 in
    rw (ne_eqb x.0 k (λ e. absurd (omega (arith, l, e)))) (value_past k a high.1)

pub value_none : (k : ℕ) (b a : List Pair) → AllByRecursion (λ x. x.0 < k) b
    → AllByRecursion (λ x. k < x.0) a → value_of k (b ++ a) ≡ None
value_none k [] a low high = value_past k a high
value_none k (x ∷ b) a low high =
    let l = low.0 in
    rw (ne_eqb x.0 k (λ e. absurd (omega (arith, l, e)))) (value_none k b a low.1 high)

-- ---- the cut

abbrev pub Parts : ℕ → List Pair → Type 0
Parts k xs = (v : Value) × (xs ≡ below k xs ++ (k, v) ∷ above k xs)

pub cut_found : (k : ℕ) (xs : List Pair) → IsRising xs → length (below k xs) < length xs
    → (pair_at xs (length (below k xs))).0 ≡ k → Parts k xs
cut_found k [] up low is = absurd (omega (arith, low))
cut_found k (x ∷ xs) up low is = elim (cases_lt x.0 k) [
  | inl l ↦
      let e = below_less k x xs l in
      let n : length (below k (x ∷ xs)) ≡ suc (length (below k xs)) = ap length e in
      let p = cut_found k xs up.1 (omega (arith, low, n))
      (ap (λ i. (pair_at (x ∷ xs) i).0) (sym n) ∙ is) in (
        p.0,
        ap (λ ys. x ∷ ys) p.1
            ∙ ap (λ ys. ys ++ (k, p.0) ∷ above k xs) (sym e)
            ∙ ap (λ ys. below k (x ∷ xs) ++ (k, p.0) ∷ ys) (sym (above_less k x xs (omega (arith, l)))),
      )
  | inr m ↦
      let high = past k x xs m up.0 in
      let e : below k (x ∷ xs) ≡ [] = below_more k x xs m ∙ below_none k xs high in
      let n : length (below k (x ∷ xs)) ≡ 0 = ap length e in
      let same : x.0 ≡ k = ap (λ i. (pair_at (x ∷ xs) i).0) (sym n) ∙ is in (
        x.1,
        ap (λ q. (q, x.1) ∷ xs) same
            ∙ ap (λ ys. ys ++ (k, x.1) ∷ xs) (sym e)
            ∙ ap (λ ys. below k (x ∷ xs) ++ (k, x.1) ∷ ys)
            (sym (above_less k x xs (omega (arith, same)) ∙ above_same k xs high)),
      )
]

pub cut_absent : (k : ℕ) (xs : List Pair) → IsRising xs
    → (length (below k xs) < length xs → (pair_at xs (length (below k xs))).0 ≢ k)
    → xs ≡ below k xs ++ above k xs
cut_absent k [] up other = refl
cut_absent k (x ∷ xs) up other = elim (cases_lt x.0 k) [
  | inl l ↦
      let e = below_less k x xs l in
      let n : length (below k (x ∷ xs)) ≡ suc (length (below k xs)) = ap length e in
      ap (λ ys. x ∷ ys) (cut_absent k xs up.1 (λ low same.
      other (omega (arith, low, n)) (ap (λ i. (pair_at (x ∷ xs) i).0) n ∙ same)))
      ∙ ap (λ ys. ys ++ above k xs) (sym e)
      ∙ ap (λ ys. below k (x ∷ xs) ++ ys) (sym (above_less k x xs (omega (arith, l))))
  | inr m ↦
      let high = past k x xs m up.0 in
      let e : below k (x ∷ xs) ≡ [] = below_more k x xs m ∙ below_none k xs high in
      let n : length (below k (x ∷ xs)) ≡ 0 = ap length e in
      elim (cases_eq x.0 k) [
        | inl same ↦ absurd (other (omega (arith, n)) (ap (λ i. (pair_at (x ∷ xs) i).0) n ∙ same))
        | inr ne ↦
            ap (λ ys. x ∷ ys) (sym (above_same k xs high))
            ∙ sym (above_more k x xs (omega (arith, m, ne)))
            ∙ ap (λ ys. ys ++ above k (x ∷ xs)) (sym e)
      ]
]

-- ---- halving

pub more_below : (k : ℕ) (xs : List Pair) (i : ℕ) → IsRising xs → i < length xs
    → (pair_at xs i).0 < k → i < length (below k xs)
more_below k [] i up low less = absurd (omega (arith, low))
more_below k (x ∷ xs) zero up low less =
    let n = ap length (below_less k x xs less) in omega (arith, n)
more_below k (x ∷ xs) (suc i) up low less =
    let here = at_all (λ y. x.0 < y.0) xs i up.0 (omega arith) in
    let n = ap length (below_less k x xs (omega (arith, here, less))) in
    let rest = more_below k xs i up.1 (omega arith) less in
    omega (arith, n, rest)
  where
    at_all : (P : Pair → Type 0) (ys : List Pair) (j : ℕ) → AllByRecursion P ys → j < length ys
        → P (pair_at ys j)
    at_all P [] j all few = absurd (omega (arith, few))
    at_all P (y ∷ ys) zero all few = all.0
    at_all P (y ∷ ys) (suc j) all few = at_all P ys j all.1 (omega arith)

pub few_below : (k : ℕ) (xs : List Pair) (i : ℕ) → IsRising xs → i < length xs
    → k ≤ (pair_at xs i).0 → length (below k xs) ≤ i
few_below k [] i up low more = absurd (omega (arith, low))
few_below k (x ∷ xs) zero up low more =
    let n = ap length (below_more k x xs more ∙ below_none k xs (past k x xs more up.0)) in
    omega (arith, n)
few_below k (x ∷ xs) (suc i) up low more = elim (cases_lt x.0 k) [
  | inl l ↦
      let n = ap length (below_less k x xs l) in
      let rest = few_below k xs i up.1 (omega arith) more in
      omega (arith, n, rest)
  | inr m ↦
      let n = ap length (below_more k x xs m) in
      let rest = few_below k xs i up.1 (omega arith) more in
      omega (arith, n, rest)
]
