-- Alarms of a list, and their values in the array.
use Rattle.std.proofs.Common.{◌≡◌, ℕ, suc, zero, inl, inr, eq-eqb, ◌+◌, ◌*◌, ◌<◌, ◌≤◌, ◌==◌, ◌||◌, Bool, true, false, if◌then◌else◌, Some, None, List, [], ◌∷◌, ◌++◌, length, take, map, slice_index_or, slice_set, sym, refl, ap, ◌∙◌, subst, arith, eqb-true}
use Rattle.std.proofs.lemmas.Bool.{both_ways, cases_Bool, ne_eqb, or_parts}
use Rattle.std.proofs.lemmas.List.{get_or-map, map-append, take_all}
use Rattle.block_store.specs.declared.Value.TheVariants.{Nil, Int}
use Rattle.heap_structures.specs.declared.alarms.Alarm.{Alarm}
use Rattle.heap_structures.specs.Alarms.{IsFound, StandOnce, acknowledged, alarm_at, cleared, raised, stands, value_of, without}

abbrev pub none : Alarm
none = record { number = 0; acknowledged = false }

-- the alarm at a place
abbrev pub named : ℕ → List Alarm → ℕ
named p xs = (slice_index_or xs p none).number

pub value_at : (xs : List Alarm) (p : ℕ) → p < length xs
    → slice_index_or (map value_of xs) p Nil ≡ value_of (slice_index_or xs p none)
value_at xs p low = get_or-map value_of xs p none Nil low

pub alarm_there : (xs : List Alarm) (p : ℕ) → p < length xs
    → alarm_at p xs ≡ Some (slice_index_or xs p none)
alarm_there [] p low = absurd (omega (arith, low))
alarm_there (x ∷ xs) zero low = refl
alarm_there (x ∷ xs) (suc p) low = alarm_there xs p (omega arith)

pub alarm_past : (xs : List Alarm) (p : ℕ) → length xs ≤ p → alarm_at p xs ≡ None
alarm_past [] p past = refl
alarm_past (x ∷ xs) zero past = absurd (omega arith)
alarm_past (x ∷ xs) (suc p) past = alarm_past xs p (omega arith)

-- ---- the walk to an alarm

pub found_here : (n : ℕ) (xs : List Alarm) (p : ℕ) → p < length xs
    → stands n (take p xs) ≡ false → (named p xs == n) ≡ true → IsFound n p xs
found_here n [] p low first is = absurd (omega (arith, low))
found_here n (x ∷ xs) zero low first is = is
found_here n (x ∷ xs) (suc p) low first is =
    let e = or_parts (x.number == n) (stands n (take p xs)) first in
    (e.0, found_here n xs p (omega arith) e.1 is)

pub not_here : (n : ℕ) (xs : List Alarm) (p : ℕ) → p < length xs
    → stands n (take p xs) ≡ false → (named p xs == n) ≡ false
    → stands n (take (p + 1) xs) ≡ false
not_here n xs p low first is =
    subst (λ k. stands n (take k xs) ≡ false) (let e : suc p ≡ p + 1 = omega arith in e)
    (by xs p low first is)
  where
    by : (xs : List Alarm) (p : ℕ) → p < length xs → stands n (take p xs) ≡ false
        → (named p xs == n) ≡ false → stands n (take (suc p) xs) ≡ false
    by [] p low first is = absurd (omega (arith, low))
    by (x ∷ xs) zero low first is = ap (λ t. t || false) is
    by (x ∷ xs) (suc p) low first is =
        let e = or_parts (x.number == n) (stands n (take p xs)) first in
        ap (λ t. t || stands n (take (suc p) xs)) e.0 ∙ by xs p (omega arith) e.1 is

pub not_at_all : (n : ℕ) (xs : List Alarm) (p : ℕ) → length xs ≤ p → stands n (take p xs) ≡ false
    → stands n xs ≡ false
not_at_all n xs p past first = subst (λ bs. stands n bs ≡ false) (take_all p xs past) first

-- ---- the alarm that was found

pub found_low : (n p : ℕ) (xs : List Alarm) → IsFound n p xs → p < length xs
found_low n p [] f = absurd f
found_low n zero (x ∷ xs) f = omega arith
found_low n (suc p) (x ∷ xs) f = let l = found_low n p xs f.1 in omega (arith, l)

pub found_stands : (n p : ℕ) (xs : List Alarm) → IsFound n p xs → stands n xs ≡ true
found_stands n p [] f = absurd f
found_stands n zero (x ∷ xs) f = ap (λ t. t || stands n xs) f
found_stands n (suc p) (x ∷ xs) f =
    ap (λ t. t || stands n xs) f.0 ∙ found_stands n p xs f.1

pub found_cleared : (n p : ℕ) (xs : List Alarm) → IsFound n p xs
    → map value_of (cleared n xs) ≡ without p (map value_of xs)
found_cleared n p [] f = absurd f
found_cleared n zero (x ∷ xs) f =
    ap (λ (t : Bool). map value_of (if t then xs else x ∷ cleared n xs)) f
found_cleared n (suc p) (x ∷ xs) f =
    ap (λ (t : Bool). map value_of (if t then xs else x ∷ cleared n xs)) f.0
    ∙ ap (λ vs. value_of x ∷ vs) (found_cleared n p xs f.1)

abbrev acked : Alarm → Alarm
acked x = record { number = x.number; acknowledged = true }

pub found_acknowledged : (n p : ℕ) (xs : List Alarm) → IsFound n p xs
    → map value_of (acknowledged n xs) ≡ slice_set (map value_of xs) p (Int (2 * n + 1))
found_acknowledged n p [] f = absurd f
found_acknowledged n zero (x ∷ xs) f =
    ap (λ (t : Bool). map value_of (if t then acked x ∷ xs else x ∷ acknowledged n xs)) f
    ∙ ap (λ m. Int (2 * m + 1) ∷ map value_of xs) (eqb-true x.number n f)
found_acknowledged n (suc p) (x ∷ xs) f =
    ap (λ (t : Bool). map value_of (if t then acked x ∷ xs else x ∷ acknowledged n xs)) f.0
    ∙ ap (λ vs. value_of x ∷ vs) (found_acknowledged n p xs f.1)

-- ---- an alarm that does not stand

pub none_cleared : (n : ℕ) (xs : List Alarm) → stands n xs ≡ false → cleared n xs ≡ xs
none_cleared n [] e = refl
none_cleared n (x ∷ xs) e =
    let p = or_parts (x.number == n) (stands n xs) e in
    ap (λ (t : Bool). if t then xs else x ∷ cleared n xs) p.0
    ∙ ap (λ bs. x ∷ bs) (none_cleared n xs p.1)

pub none_acknowledged : (n : ℕ) (xs : List Alarm) → stands n xs ≡ false
    → acknowledged n xs ≡ xs
none_acknowledged n [] e = refl
none_acknowledged n (x ∷ xs) e =
    let p = or_parts (x.number == n) (stands n xs) e in
    ap (λ (t : Bool). if t then acked x ∷ xs else x ∷ acknowledged n xs) p.0
    ∙ ap (λ bs. x ∷ bs) (none_acknowledged n xs p.1)

pub raised_values : (n : ℕ) (xs : List Alarm)
    → map value_of (raised n xs) ≡ map value_of xs ++ Int (2 * n) ∷ []
raised_values n xs =
    map-append value_of xs (record { number = n; acknowledged = false } ∷ [])
    ∙ ap (λ m. map value_of xs ++ Int m ∷ []) (let e : 2 * n + 0 ≡ 2 * n = omega arith in e)

-- ---- no alarm stands twice

apart : (m n : ℕ) → (m == n) ≡ false → (n == m) ≡ false
apart m n ne = ne_eqb n m (λ e. both_ways (m == n) ne (eq-eqb m n (sym e)))

stands_raised : (m n : ℕ) (xs : List Alarm) → (n == m) ≡ false → stands m xs ≡ false
    → stands m (raised n xs) ≡ false
stands_raised m n [] e f = ap (λ t. t || false) e
stands_raised m n (x ∷ xs) e f =
    let p = or_parts (x.number == m) (stands m xs) f in
    ap (λ t. t || stands m (raised n xs)) p.0 ∙ stands_raised m n xs e p.1

pub once_raised : (n : ℕ) (xs : List Alarm) → StandOnce xs → stands n xs ≡ false
    → StandOnce (raised n xs)
once_raised n [] once f = (refl, tt)
once_raised n (x ∷ xs) once f =
    let p = or_parts (x.number == n) (stands n xs) f in (
      stands_raised x.number n xs (apart x.number n p.0) once.0,
      once_raised n xs once.1 p.1,
    )

abbrev after_ack : ℕ → Alarm → List Alarm → Bool → List Alarm
after_ack n x xs t = if t then acked x ∷ xs else x ∷ acknowledged n xs

abbrev after_clear : ℕ → Alarm → List Alarm → Bool → List Alarm
after_clear n x xs t = if t then xs else x ∷ cleared n xs

stands_acknowledged : (m n : ℕ) (xs : List Alarm) → stands m (acknowledged n xs) ≡ stands m xs
stands_acknowledged m n [] = refl
stands_acknowledged m n (x ∷ xs) = elim (cases_Bool (x.number == n)) [
  | inl e ↦ ap (λ t. stands m (after_ack n x xs t)) e
  | inr e ↦ ap (λ t. stands m (after_ack n x xs t)) e
      ∙ ap (λ t. x.number == m || t) (stands_acknowledged m n xs)
]

pub once_acknowledged : (n : ℕ) (xs : List Alarm) → StandOnce xs → StandOnce (acknowledged n xs)
once_acknowledged n [] once = tt
once_acknowledged n (x ∷ xs) once = elim (cases_Bool (x.number == n)) [
  | inl e ↦ subst (λ t. StandOnce (after_ack n x xs t)) (sym e) once
  | inr e ↦ subst (λ t. StandOnce (after_ack n x xs t)) (sym e) (
    stands_acknowledged x.number n xs ∙ once.0,
    once_acknowledged n xs once.1,
  )
]

stands_cleared : (m n : ℕ) (xs : List Alarm) → stands m xs ≡ false
    → stands m (cleared n xs) ≡ false
stands_cleared m n [] f = refl
stands_cleared m n (x ∷ xs) f =
    let p = or_parts (x.number == m) (stands m xs) f in elim (cases_Bool (x.number == n)) [
      | inl e ↦ ap (λ t. stands m (after_clear n x xs t)) e ∙ p.1
      | inr e ↦ ap (λ t. stands m (after_clear n x xs t)) e
          ∙ ap (λ t. t || stands m (cleared n xs)) p.0 ∙ stands_cleared m n xs p.1
    ]

pub once_cleared : (n : ℕ) (xs : List Alarm) → StandOnce xs → StandOnce (cleared n xs)
once_cleared n [] once = tt
once_cleared n (x ∷ xs) once = elim (cases_Bool (x.number == n)) [
  | inl e ↦ subst (λ t. StandOnce (after_clear n x xs t)) (sym e) once.1
  | inr e ↦ subst (λ t. StandOnce (after_clear n x xs t)) (sym e)
      (stands_cleared x.number n xs once.0, once_cleared n xs once.1)
]

pub gone : (n : ℕ) (xs : List Alarm) → StandOnce xs → stands n (cleared n xs) ≡ false
gone n [] once = refl
gone n (x ∷ xs) once = elim (cases_Bool (x.number == n)) [
  | inl e ↦ ap (λ t. stands n (after_clear n x xs t)) e
      ∙ subst (λ k. stands k xs ≡ false) (eqb-true x.number n e) once.0
  | inr e ↦ ap (λ t. stands n (after_clear n x xs t)) e
      ∙ ap (λ t. t || stands n (cleared n xs)) e ∙ gone n xs once.1
]
