-- Sums over the numbers below n, and how often a number is in a list.
use Rattle.std.proofs.Common.{◌≡◌, ℕ, zero, suc, ◌≤◌, ◌<◌, refl, arith, ◌+◌, eqb, ap, List, [], ◌∷◌, ◌++◌, length, inl, inr, ne_eqb}
use Rattle.std.proofs.lemmas.Bool.{cases_eq}
use Rattle.block_store.specs.Counts.{total, times}
use Rattle.block_store.specs.Phases.{bit}
use Rattle.block_store.proofs.Functions.{bit_le}

-- sums of at most 1 each, of 1 each, of less each, and of nothing
pub total_ones : (n : ℕ) (f : ℕ → ℕ) → ((x : ℕ) → x < n → f x ≤ 1) → total n f ≤ n
total_ones zero f h = omega arith
total_ones (suc n) f h = let rest : total n f ≤ n = total_ones n f (λ x l. h x (omega arith)) in
    let last : f n ≤ 1 = h n (omega arith) in omega arith

pub total_least : (n : ℕ) (f : ℕ → ℕ) → ((x : ℕ) → x < n → f x ≡ 1) → total n f ≡ n
total_least zero f h = refl
total_least (suc n) f h = let rest : total n f ≡ n = total_least n f (λ x l. h x (omega arith)) in
    let last : f n ≡ 1 = h n (omega arith) in omega arith

pub total_below : (n : ℕ) (f g : ℕ → ℕ) → ((x : ℕ) → x < n → f x ≤ g x) → total n f ≤ total n g
total_below zero f g h = omega arith
total_below (suc n) f g h = let rest : total n f ≤ total n g =
    total_below n f g (λ x l. h x (omega arith)) in let last : f n ≤ g n = h n (omega arith) in
    omega arith

pub total_nought : (n : ℕ) → total n (λ x. 0) ≡ 0
total_nought zero = refl
total_nought (suc n) = let rest : total n (λ x. 0) ≡ 0 = total_nought n in omega arith

-- how often a number is in two lists, and in the numbers from 1 to n
pub times_append : (x : ℕ) (xs ys : List ℕ) → times x (xs ++ ys) ≡ times x xs + times x ys
times_append x [] ys = omega arith
times_append x (y ∷ xs) ys = omega (arith, times_append x xs ys)

pub total_plus : (n : ℕ) (f g : ℕ → ℕ) → total n (λ x. f x + g x) ≡ total n f + total n g
total_plus zero f g = refl
total_plus (suc n) f g = omega (arith, total_plus n f g)

pub none_above : (n y : ℕ) → n < y → total n (λ x. bit (eqb (suc x) y)) ≡ 0
none_above zero y h = refl
none_above (suc n) y h =
    let e : bit (eqb (suc n) y) ≡ 0 = ap bit (ne_eqb (suc n) y (λ q. omega arith)) in
    omega (arith, none_above n y (omega arith))

pub one_at_most : (n y : ℕ) → total n (λ x. bit (eqb (suc x) y)) ≤ 1
one_at_most zero y = omega arith
one_at_most (suc n) y = elim (cases_eq (suc n) y) [
  | inl e ↦ omega (arith, none_above n y (omega arith), bit_le (eqb (suc n) y))
  | inr ne ↦
      let z : bit (eqb (suc n) y) ≡ 0 = ap bit (ne_eqb (suc n) y ne) in
      omega (arith, one_at_most n y)
]

-- the numbers from 1 to n are in a list at most as often as it is long
pub all_times : (n : ℕ) (ys : List ℕ) → total n (λ x. times (suc x) ys) ≤ length ys
all_times n [] = omega (arith, total_nought n)
all_times n (y ∷ ys) = omega (
  arith,
  total_plus n (λ x. bit (eqb (suc x) y)) (λ x. times (suc x) ys),
  one_at_most n y,
  all_times n ys,
)

pub times_more : (xs : List ℕ) (x y : ℕ) → times y (xs ++ x ∷ []) ≡ bit (eqb y x) + times y xs
times_more [] x y = omega arith
times_more (z ∷ xs) x y = omega (arith, times_more xs x y)
