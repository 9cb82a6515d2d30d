-- A number that is read is the number that is written so, and what is written is read again.
use Rattle.std.proofs.Common.{◌≡◌, ℕ, zero, suc, ◌+◌, ◌-◌, ◌*◌, ◌^◌, ◌<◌, ◌≤◌, Bool, true, false, cond, ltb, eqb, ◌&&◌, ◌||◌, List, [], ◌∷◌, length, get_or, decimal, Option, Some, None, refl, sym, ap, ◌∙◌, arith}
use Rattle.std.specs.Char.{digit_value}
use Rattle.std.proofs.lemmas.Str.{digit_value_digit}
use Rattle.std.proofs.lemmas.Option.{same_Some}
use Rattle.std.specs.Str.Parse.{AllDigits, digits_value, digits_value_after}
use Rattle.std.proofs.lemmas.Bool.Decides.{nat_tests}
use Rattle.std.proofs.lemmas.Int.Digits.{digits_value-lt}
use Rattle.std.proofs.lemmas.Str.Parse.{IsNumeralModel, numerals_by_value, tells_digits, digit_from_value}
use Rattle.std.proofs.lemmas.Fmt.{decimal-digits_value, decimal_is_IsNumeral, length-decimal-le, first_decimal, decimal_digit}
use Rattle.std.proofs.Math.Nat.{pow-le-pow_right}
use Rattle.trace_text.specs.Reading.{is_digit, digits_on, number_at}

own : IsNumeralModel (AllDigits 10) (digits_value 10)
own = numerals_by_value (AllDigits 10) tells_digits

-- what the digits of a value are
pub record Spells (n : ℕ) (bs : List ℕ) (m : ℕ) : Type 0 where
  pub digits : AllDigits 10 bs
  pub value : digits_value_after 10 n bs ≡ m

digit_is : (b : ℕ) → is_digit b ≡ true → digit_value b + 48 ≡ b
digit_is b is = digit_value_digit b (grind (arith, nat_tests))

digit_below : (b : ℕ) → is_digit b ≡ true → digit_value b < 10
digit_below b is = let e = digit_is b is in grind (arith, nat_tests)

is_digit_from : (b : ℕ) → digit_value b < 10 → is_digit b ≡ true
is_digit_from b h = let r = digit_from_value b h in grind (arith, nat_tests)

-- a choice that gave something
pub then_some : {A : Type 0} (t : Bool) (x : Option A) (m : A) → cond t x None ≡ Some m
    → (t ≡ true) × (x ≡ Some m)
then_some true x m e = (refl, e)
then_some false x m e = absurd cc

pub else_some : {A : Type 0} (t : Bool) (x : Option A) (m : A) → cond t None x ≡ Some m
    → (t ≡ false) × (x ≡ Some m)
else_some true x m e = absurd cc
else_some false x m e = (refl, e)

pub digits_sound : (n m : ℕ) (bs : List ℕ) → digits_on n bs ≡ Some m → Spells n bs m
unfolding digits_on
digits_sound n m [] e = record { digits = tt; value = same_Some n m e }
digits_sound n m (b ∷ bs) e =
    let t = then_some (is_digit b) (digits_on (10 * n + (b - 48)) bs) m e in
    let next : 10 * n + (b - 48) ≡ n * 10 + digit_value b = omega (arith, digit_is b t.0) in
    let rest = digits_sound (10 * n + (b - 48)) m bs t.1 in
    record {
      digits = (digit_below b t.0, rest.digits);
      value = sym (ap (λ k. digits_value_after 10 k bs) next) ∙ rest.value;
    }

pub digits_complete : (n : ℕ) (bs : List ℕ) → AllDigits 10 bs
    → digits_on n bs ≡ Some (digits_value_after 10 n bs)
unfolding digits_on
digits_complete n [] h = refl
digits_complete n (b ∷ bs) h =
    let is = is_digit_from b h.0 in
    let next : 10 * n + (b - 48) ≡ n * 10 + digit_value b = omega (arith, digit_is b is) in
    rw (is, next) (digits_complete (n * 10 + digit_value b) bs h.1)

-- the form of a number
abbrev pub has_bad_form : List ℕ → Bool
has_bad_form token = eqb (length token) 0 || ltb 19 (length token) ||
    (ltb 1 (length token) && eqb (get_or token 0 0) 48)

pub record HasForm (token : List ℕ) : Type 0 where
  pub some : 0 < length token
  pub few : length token ≤ 19
  pub no_zero : get_or token 0 0 ≡ 48 → length token ≡ 1

form_sound : (token : List ℕ) → has_bad_form token ≡ false → HasForm token
form_sound token e = record {
  some = grind (arith, nat_tests);
  few = grind (arith, nat_tests);
  no_zero = λ z. grind (arith, nat_tests);
}

form_complete : (token : List ℕ) → 0 < length token → length token ≤ 19
    → (get_or token 0 0 ≡ 48 → length token ≡ 1) → has_bad_form token ≡ false
form_complete token some few no_zero = grind (arith, nat_tests)

pub number_sound : (token : List ℕ) (n : ℕ) → number_at token ≡ Some n
    → (token ≡ decimal n) × (n < 10 ^ 19)
unfolding number_at
number_sound token n e =
    let t = else_some (has_bad_form token) (digits_on 0 token) n e in
    let form = form_sound token t.0 in
    let spelled = digits_sound 0 n token t.1 in
    let below : digits_value 10 token < 10 ^ length token =
    digits_value-lt 10 token spelled.digits in
    let most : 10 ^ length token ≤ 10 ^ 19 = pow-le-pow_right (omega arith) form.few in
    let same : decimal (digits_value 10 token) ≡ token =
    decimal-digits_value own token spelled.digits form.some form.no_zero (omega arith) in
    let value : digits_value 10 token ≡ n = spelled.value in
    (sym same ∙ ap decimal value, omega arith)

no_zero_in_front : (n : ℕ) → n < 10 ^ 19 → get_or (decimal n) 0 0 ≡ 48 → length (decimal n) ≡ 1
no_zero_in_front zero lt z = ap length (decimal_digit 0 (omega arith))
no_zero_in_front (suc n) lt z =
    absurd (omega (arith, first_decimal (suc n) (omega arith) (omega arith)))

pub number_complete : (n : ℕ) → n < 10 ^ 19 → number_at (decimal n) ≡ Some n
unfolding number_at
number_complete n lt =
    let spelled = decimal_is_IsNumeral n (omega arith) in
    let form = form_complete (decimal n) spelled.0.0
    (length-decimal-le 19 n (omega arith) lt (omega arith)) (no_zero_in_front n lt) in
    rw form (digits_complete 0 (decimal n) spelled.0.1 ∙ ap Some spelled.1)
