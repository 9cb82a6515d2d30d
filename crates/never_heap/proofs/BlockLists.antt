-- What is in a list of blocks is at most its length.
use Rattle.std.proofs.Common.{◌≡◌, ℕ, zero, suc, ◌+◌, ◌≤◌, ◌<◌, Bool, true, false, eqb, refl, arith, ap, subst, List, [], ◌∷◌, ◌++◌, length, length-append, inl, inr, eq-eqb}
use Rattle.std.specs.List.{list_any, sum_by}
use Rattle.std.proofs.lemmas.Bool.{cases_eq, or_cases}
use Rattle.std.proofs.lemmas.List.Sums.{sum_by-cons}
use Rattle.block_store.specs.declared.Name.{Name}
use Rattle.block_store.specs.Phases.{bit}
use Rattle.never_heap.specs.Graphs.{same_name}
use Rattle.never_heap.proofs.NameLists.{one_name}
use Rattle.block_store.specs.Counts.{times, total}
use Rattle.block_store.proofs.Lemmas.{all_times, times_append, total_below}

one_listed : (b : Bool) (k : ℕ) → (b ≡ true → 1 ≤ k) → bit b ≤ k
one_listed true k h = h refl
one_listed false k h = omega arith

-- the numbers that have a property are no more than the list in which each of them is
pub listed : (n : ℕ) (p : ℕ → Bool) (ys : List ℕ)
    → ((x : ℕ) → 0 < x → x ≤ n → p x ≡ true → 1 ≤ times x ys)
    → total n (λ x. bit (p (suc x))) ≤ length ys
listed n p ys h =
    let below = total_below n (λ x. bit (p (suc x))) (λ x. times (suc x) ys) (λ x l.
    one_listed (p (suc x)) (times (suc x) ys) (h (suc x) (omega arith) (omega arith))) in
    omega (arith, all_times n ys)

-- the first k blocks of a placement, and those of the names of a list
abbrev pub these : (ℕ → ℕ) → ℕ → List ℕ
these f zero = []
these f (suc k) = f k ∷ these f k

pub length_these : (f : ℕ → ℕ) (k : ℕ) → length (these f k) ≡ k
length_these f zero = refl
length_these f (suc k) = omega (arith, length_these f k)

pub times_these : (f : ℕ → ℕ) (k o : ℕ) → o < k → 1 ≤ times (f o) (these f k)
times_these f zero o h = absurd (omega arith)
times_these f (suc k) o h = elim (cases_eq o k) [
  | inl e ↦
      let b : bit (eqb (f o) (f k)) ≡ 1 = ap bit (eq-eqb (f o) (f k) (ap f e)) in
      omega arith
  | inr ne ↦ omega (arith, times_these f k o (omega arith))
]

abbrev pub blocks_at : (Name → ℕ → ℕ) → (Name → ℕ) → List Name → List ℕ
blocks_at at k [] = []
blocks_at at k (a ∷ xs) = these (at a) (k a) ++ blocks_at at k xs

pub length_blocks : (at : Name → ℕ → ℕ) (k : Name → ℕ) (xs : List Name)
    → length (blocks_at at k xs) ≡ sum_by k xs
length_blocks at k [] = refl
length_blocks at k (a ∷ xs) =
    let both = length-append (these (at a) (k a)) (blocks_at at k xs) in
    let first = length_these (at a) (k a) in
    let rest = length_blocks at k xs in
    let sum : sum_by k (a ∷ xs) ≡ k a + sum_by k xs = sum_by-cons k a xs in
    omega arith

pub times_blocks : (at : Name → ℕ → ℕ) (k : Name → ℕ) (xs : List Name) (a : Name) (o : ℕ)
    → list_any (same_name a) xs ≡ true → o < k a → 1 ≤ times (at a o) (blocks_at at k xs)
times_blocks at k [] a o h l = absurd (let e : false ≡ true = h in cc)
times_blocks at k (b ∷ xs) a o h l =
    let both = times_append (at a o) (these (at b) (k b)) (blocks_at at k xs) in
    elim (or_cases (same_name a b) (list_any (same_name a) xs) h) [
      | inl y ↦
          let here : 1 ≤ times (at a o) (these (at b) (k b)) =
          subst (λ d. 1 ≤ times (at a o) (these (at d) (k d))) (one_name a b y)
          (times_these (at a) (k a) o l) in
          omega arith
      | inr y ↦ omega (arith, times_blocks at k xs a o y l)
    ]
