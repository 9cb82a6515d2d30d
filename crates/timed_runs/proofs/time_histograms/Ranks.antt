-- A time in a list in order, and how many are below it.
use Rattle.std.proofs.Common.{ℕ, zero, suc, ◌+◌, ◌-◌, ◌*◌, ◌/◌, ◌%◌, min, ◌<◌, ◌≤◌, ◌≡◌, Bool, true, false, nat_lt, if◌then◌else◌, List, [], ◌∷◌, length, get_or, arith, refl, ap, sym, subst, IsSorted}
use Rattle.std.proofs.lemmas.Grind.{get_or_default_zero}
use Rattle.std.proofs.Math.Nat.{mul-le-mul, mul-le-mul_left}
use Rattle.std.proofs.lemmas.List.Elements.{Contains-get_or}
use Rattle.std.specs.Ordering.{nat_cmp, is_lt}
use Rattle.timed_runs.specs.time_histograms.Counts.{below, IsPercentile}

abbrev pub AtLeast : ℕ → List ℕ → Type 0
AtLeast x [] = Unit {0}
AtLeast x (y ∷ ys) = (x ≤ y) × AtLeast x ys

abbrev pub Rising : List ℕ → Type 0
Rising [] = Unit {0}
Rising (x ∷ xs) = AtLeast x xs × Rising xs

pub weaker : (x y : ℕ) (zs : List ℕ) → x ≤ y → AtLeast y zs → AtLeast x zs
weaker x y [] low all = tt
weaker x y (z ∷ zs) low all = (omega (arith, low, all.0), weaker x y zs low all.1)

pub not_below : (a b : ℕ) → b ≤ a → nat_lt a b ≡ false
not_below a b h = grind arith

pub is_below : (a b : ℕ) → a < b → nat_lt a b ≡ true
is_below a b h = grind arith

pub none_below : (x : ℕ) (zs : List ℕ) → AtLeast x zs → below x zs ≡ 0
none_below x [] all = refl
none_below x (z ∷ zs) all =
    let rest : below x zs ≡ 0 = none_below x zs all.1 in
    rw (not_below z x all.0) rest

pub head_low : (x i : ℕ) (zs : List ℕ) → AtLeast x zs → i < length zs → x ≤ get_or zs i 0
head_low x i [] all inside = absurd (omega (arith, inside))
head_low x zero (z ∷ zs) all inside = all.0
head_low x (suc i) (z ∷ zs) all inside = head_low x i zs all.1 (omega (arith, inside))

pub few_below : (i : ℕ) (xs : List ℕ) → Rising xs → i < length xs
    → below (get_or xs i 0) xs ≤ i
few_below i [] rising inside = absurd (omega (arith, inside))
few_below zero (x ∷ xs) rising inside =
    rw (not_below x x (omega arith), none_below x xs rising.0) omega arith
few_below (suc i) (x ∷ xs) rising inside =
    let rest : below (get_or xs i 0) xs ≤ i = few_below i xs rising.1 (omega (arith, inside)) in
    at_most (nat_lt x (get_or xs i 0)) (below (get_or xs i 0) xs) i rest
  where
    at_most : (t : Bool) (n i : ℕ) → n ≤ i → (if t then suc n else n) ≤ suc i
    at_most true n i h = omega (arith, h)
    at_most false n i h = omega (arith, h)

pub enough_below : (i : ℕ) (xs : List ℕ) → Rising xs → i < length xs
    → suc i ≤ below (get_or xs i 0 + 1) xs
enough_below i [] rising inside = absurd (omega (arith, inside))
enough_below zero (x ∷ xs) rising inside =
    rw (is_below x (x + 1) (omega arith)) omega arith
enough_below (suc i) (x ∷ xs) rising inside =
    let rest : suc i ≤ below (get_or xs i 0 + 1) xs =
    enough_below i xs rising.1 (omega (arith, inside)) in
    let low : x ≤ get_or xs i 0 = head_low x i xs rising.0 (omega (arith, inside)) in
    rw (is_below x (get_or xs i 0 + 1) (omega (arith, low))) omega (arith, rest)

abbrev pub InOrder : List ℕ → Type 0
InOrder xs = IsSorted nat_cmp xs

pub pair_low : (x y : ℕ) → is_lt (nat_cmp y x) ≡ false → x ≤ y
pair_low x y h = by_test (nat_lt y x) refl
  where
    by_test : (t : Bool) → nat_lt y x ≡ t → x ≤ y
    by_test true e = absurd (grind (arith, e, h))
    by_test false e = grind (arith, e)

pub behind : (x y : ℕ) (zs : List ℕ) (k d : ℕ)
    → is_lt (nat_cmp (get_or (x ∷ y ∷ zs) (suc k + 1) d) (get_or (x ∷ y ∷ zs) (suc k) d)) ≡ false
    → is_lt (nat_cmp (get_or (y ∷ zs) (k + 1) d) (get_or (y ∷ zs) k d)) ≡ false
behind x y zs k d h =
    let same : suc k + 1 ≡ suc (k + 1) = omega arith in
    subst (λ n. is_lt (nat_cmp (get_or (x ∷ y ∷ zs) n d) (get_or (y ∷ zs) k d)) ≡ false) same h

pub rising : (xs : List ℕ) → InOrder xs → Rising xs
rising [] sorted = tt
rising (x ∷ []) sorted = (tt, tt)
rising (x ∷ y ∷ zs) sorted =
    let tail : Rising (y ∷ zs) =
    rising (y ∷ zs) (λ k d low high. behind x y zs k d
    (sorted (suc k) d (omega arith) (omega (arith, high)))) in
    let first : x ≤ y = pair_low x y (sorted 0 0 (omega arith) (omega arith)) in
    ((first, weaker x y zs first tail.0), tail)

-- the number of the time, from 0
abbrev pub rank : ℕ → ℕ → ℕ
rank n thousandths = (n * thousandths) / 1000 + min 1 ((n * thousandths) % 1000) - 1

pub rank_is : (n th : ℕ) → 0 < n → 0 < th → th ≤ 1000
    → (rank n th < n) × (1000 * rank n th < n * th) × (n * th ≤ 1000 * suc (rank n th))
rank_is n th some least most =
    let high : n * th ≤ n * 1000 = mul-le-mul_left n most in
    let low : 1 * 1 ≤ n * th = mul-le-mul some least in
    of_product n (n * th) high (omega (arith, low))
  where
    of_product : (n p : ℕ) → p ≤ n * 1000 → 0 < p
        → (p / 1000 + min 1 (p % 1000) - 1 < n) × (1000 * (p / 1000 + min 1 (p % 1000) - 1) < p)
        × (p ≤ 1000 * suc (p / 1000 + min 1 (p % 1000) - 1))
    of_product n p high low = (omega (arith, high, low), omega (arith, high, low), omega (arith, high, low))

pub percentile_is : (th : ℕ) (xs : List ℕ) → InOrder xs → 0 < length xs → 0 < th → th ≤ 1000
    → IsPercentile th xs (get_or xs (rank (length xs) th) 0)
percentile_is th xs sorted some least most =
    let r : ℕ = rank (length xs) th in
    let is : (r < length xs) × (1000 * r < length xs * th) × (length xs * th ≤ 1000 * suc r) =
    rank_is (length xs) th some least most in
    let low : below (get_or xs r 0) xs ≤ r = few_below r xs (rising xs sorted) is.0 in
    let high : suc r ≤ below (get_or xs r 0 + 1) xs = enough_below r xs (rising xs sorted) is.0 in
    record {
      one = Contains-get_or xs r 0 is.0;
      few = omega (arith, low, is.1);
      enough = omega (arith, high, is.2);
    }

pub picked : (th : ℕ) (xs ys zs : List ℕ) (q d : ℕ) → xs ≡ ys → ys ≡ zs → InOrder ys
    → q ≡ (length xs * th) / 1000 + min 1 ((length xs * th) % 1000) → 0 < length xs → 0 < th
    → th ≤ 1000 → IsPercentile th zs (get_or xs (q - 1) d)
picked th xs ys zs q d same kept sorted is some least most =
    let in_order : InOrder xs = subst InOrder (sym same) sorted in
    let place : q - 1 ≡ rank (length xs) th = ap (λ k. k - 1) is in
    let inside : rank (length xs) th < length xs = (rank_is (length xs) th some least most).0 in
    let at_zero : get_or xs (rank (length xs) th) d ≡ get_or xs (rank (length xs) th) 0 =
    get_or_default_zero xs (rank (length xs) th) d inside in
    subst (λ ws. IsPercentile th ws (get_or xs (q - 1) d)) kept
    (subst (λ ws. IsPercentile th ws (get_or xs (q - 1) d)) same
    (subst (λ k. IsPercentile th xs (get_or xs k d)) (sym place)
    (subst (λ y. IsPercentile th xs y) (sym at_zero)
    (percentile_is th xs in_order some least most))))
