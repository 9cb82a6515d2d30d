-- Reading a number digit by digit.
use Rattle.std.proofs.Common.{◌≡◌, ℕ, ◌+◌, ◌-◌, ◌*◌, ◌^◌, ◌<◌, ◌≤◌, true, false, List, length, get_or, drop, Some, None, refl, ◌∙◌, arith}
use Rattle.std.proofs.lemmas.List.{at_drop_more, drop_all}
use Rattle.std.proofs.lemmas.Grind.{pow_more}
use Rattle.std.proofs.lemmas.Bool.Decides.{nat_tests}
use Rattle.std.proofs.Math.Nat.{pow-le-pow_right}
use Rattle.trace_text.specs.Reading.{is_digit, digits_on}

-- the step at a byte that is a digit
pub digits_on_more : (bs : List ℕ) (n i : ℕ) → i < length bs → is_digit (get_or bs i 0) ≡ true
    → digits_on n (drop i bs) ≡ digits_on (10 * n + (get_or bs i 0 - 48)) (drop (i + 1) bs)
unfolding digits_on
digits_on_more bs n i lt is = at_drop_more (digits_on n) bs i 0 lt ∙ rw is refl

-- the step at a byte that is none
pub digits_on_stop : (bs : List ℕ) (n i : ℕ) → i < length bs → is_digit (get_or bs i 0) ≡ false
    → digits_on n (drop i bs) ≡ None
unfolding digits_on
digits_on_stop bs n i lt is = at_drop_more (digits_on n) bs i 0 lt ∙ rw is refl

pub digits_on_end : (bs : List ℕ) (n i : ℕ) → length bs ≤ i → digits_on n (drop i bs) ≡ Some n
unfolding digits_on
digits_on_end bs n i le = rw (drop_all i bs le) refl

-- one more digit stays below the next power of ten
pub one_more : (v d i : ℕ) → v < 10 ^ i → d < 10 → 10 * v + d < 10 ^ (i + 1)
one_more v d i lt small = omega (arith, pow_more 10 i)

-- up to nineteen digits fit a word
pub in_word : (v i : ℕ) → v < 10 ^ i → i ≤ 19 → v < 2 ^ 64
in_word v i lt few = let h : 10 ^ i ≤ 10 ^ 19 = pow-le-pow_right (omega arith) few in omega arith

pub digit_below : (b : ℕ) → is_digit b ≡ true → b - 48 < 10
digit_below b is = grind (arith, nat_tests)

-- the next value, and what it has to fit
pub more_fits : (v d i : ℕ) → v < 10 ^ i → d < 10 → i < 19 → 10 * v + d < 2 ^ 64
more_fits v d i lt small few = in_word (10 * v + d) (i + 1) (one_more v d i lt small) (omega arith)
