-- Lists of blocks that are held: how often a block is in one, and in its first blocks.
use Rattle.std.proofs.Common.{
  ◌≡◌,
  ℕ,
  zero,
  suc,
  ◌<◌,
  ◌≤◌,
  ◌+◌,
  refl,
  arith,
  eqb,
  eq-eqb,
  List,
  [],
  ◌∷◌,
  ◌++◌,
  length,
  take,
}
use Rattle.std.proofs.lemmas.List.{length-take, take_all}
use Rattle.block_store.specs.Phases.{bit}
use Rattle.block_store.specs.Counts.{times}
use Rattle.build_steps.specs.Objects.{block_at}

pub times_first : (xs : List ℕ) (o y : ℕ) → o < length xs
    → times y (take (suc o) xs) ≡ bit (eqb y (block_at xs o)) + times y (take o xs)
times_first [] o y low = absurd (omega arith)
times_first (x ∷ xs) zero y low = refl
times_first (x ∷ xs) (suc o) y low = omega (arith, times_first xs o y (omega arith))

pub first_few : (n : ℕ) (xs : List ℕ) → length (take n xs) ≤ n
first_few n xs = omega (arith, length-take n xs)

pub first_all : (n : ℕ) (xs : List ℕ) → length xs ≡ n → take n xs ≡ xs
first_all n xs e = take_all n xs (omega arith)

pub stands_once : (xs : List ℕ) (j : ℕ) → j < length xs → 1 ≤ times (block_at xs j) xs
stands_once [] j low = absurd (omega arith)
stands_once (x ∷ xs) zero low = rw (eq-eqb x x refl) (omega arith)
stands_once (x ∷ xs) (suc j) low = omega (arith, stands_once xs j (omega arith))

pub first_has : (n : ℕ) (xs : List ℕ) (o : ℕ) → o < n → o < length xs
    → 1 ≤ times (block_at xs o) (take n xs)
first_has zero xs o less low = absurd (omega arith)
first_has (suc n) [] o less low = absurd (omega arith)
first_has (suc n) (x ∷ xs) zero less low = rw (eq-eqb x x refl) (omega arith)
first_has (suc n) (x ∷ xs) (suc o) less low =
    omega (arith, first_has n xs o (omega arith) (omega arith))
