-- The last samples of a signal and their alarms, when one more comes.
use Rattle.std.proofs.Common.{◌≡◌, ℕ, ◌+◌, ◌-◌, ◌<◌, ◌≤◌, ◌==◌, ◌||◌, ◌⊎◌, inl, inr, nat_lt, eq-eqb, ne_eqb, lt-ltb, Bool, true, false, cond, List, [], ◌∷◌, ◌++◌, length, drop, map, slice_index_or, sym, refl, ap, ◌∙◌, arith}
use Rattle.std.proofs.lemmas.Bool.{cases_Bool, cases_lt, le-ltb, both_ways}
use Rattle.std.proofs.lemmas.List.{at_drop_more, drop-append-le, drop-drop, drop-map, length-drop, length-map, length_push, map-append}
use Rattle.heap_structures.specs.Alarms.{cleared, stands}
use Rattle.heap_structures.specs.Circles.{last_of}
use Rattle.heap_structures.specs.Trends.{alarms_from, alarms_in, values_in, with_alarm}
use Rattle.heap_structures.specs.declared.alarms.Alarm.{Alarm}
use Rattle.heap_structures.specs.declared.trend.Sample.{Sample}

-- the last of the last and one more
pub last_again : {A : Type 0} (m : ℕ) (xs : List A) (x : A)
    → last_of m (last_of m xs ++ x ∷ []) ≡ last_of m (xs ++ x ∷ [])
last_again m xs x =
    let n : ℕ = length xs - m in
    let all = xs ++ x ∷ [] in
    let inner : last_of m xs ++ x ∷ [] ≡ drop n all =
    sym (drop-append-le n xs (x ∷ []) (omega arith)) in
    let long : length (drop n all) ≡ length all - n = length-drop n all in
    let from : n + (length (drop n all) - m) ≡ length all - m =
    omega (arith, long, length_push xs x) in
    ap (last_of m) inner ∙ drop-drop (length (drop n all) - m) n all ∙ ap (λ k. drop k all) from

pub few_last : {A : Type 0} (m : ℕ) (xs : List A) → length (last_of m xs) ≤ m
few_last m xs = omega (arith, length-drop (length xs - m) xs)

pub values_more : (m : ℕ) (xs : List Sample) (x : Sample)
    → last_of m (values_in (last_of m xs) ++ x.value ∷ []) ≡ values_in (last_of m (xs ++ x ∷ []))
values_more m xs x =
    let f : Sample → ℕ = λ y. y.value in
    let zs : List Sample = last_of m xs ++ x ∷ [] in
    ap (last_of m) (sym (map-append f (last_of m xs) (x ∷ [])))
    ∙ ap (λ k. drop (k - m) (map f zs)) (length-map zs f) ∙ drop-map f (length zs - m) zs
    ∙ ap values_in (last_again m xs x)

-- ---- alarms

not_with : (b : Bool) (n i : ℕ) (ls : List Alarm) → (i == n) ≡ false → stands n ls ≡ false
    → stands n (with_alarm b i ls) ≡ false
not_with true n i ls ne none = ap (λ t. t || stands n ls) ne ∙ none
not_with false n i ls ne none = none

-- no sample before or after these
none_of : (n i : ℕ) (ys : List Sample) → (n < i) ⊎ (i + length ys ≤ n)
    → stands n (alarms_from i ys) ≡ false
none_of n i [] out = refl
none_of n i (y ∷ ys) (inl low) =
    not_with y.alarm n i (alarms_from (i + 1) ys) (ne_eqb i n (λ e. absurd (omega (arith, e))))
    (none_of n (i + 1) ys (inl (omega arith)))
none_of n i (y ∷ ys) (inr high) =
    not_with y.alarm n i (alarms_from (i + 1) ys) (ne_eqb i n (λ e. absurd (omega (arith, e))))
    (none_of n (i + 1) ys (inr (omega arith)))

none_cleared : (n : ℕ) (ls : List Alarm) → stands n ls ≡ false → cleared n ls ≡ ls
none_cleared n [] none = refl
none_cleared n (x ∷ ls) none = elim (cases_Bool (x.number == n)) [
  | inl is ↦ absurd (both_ways (stands n (x ∷ ls)) none (ap (λ b. b || stands n ls) is))
  | inr not ↦ ap (λ b. cond b ls (x ∷ cleared n ls)) not
      ∙ ap (λ zs. x ∷ zs) (none_cleared n ls (sym (ap (λ b. b || stands n ls) not) ∙ none))
]

first_cleared : (b : Bool) (i : ℕ) (ls : List Alarm) → stands i ls ≡ false
    → cleared i (with_alarm b i ls) ≡ ls
first_cleared true i ls none =
    ap (λ t. cond t ls (record { number = i; acknowledged = false } ∷ cleared i ls))
    (eq-eqb i i refl)
first_cleared false i ls none = none_cleared i ls none

with_more : (b : Bool) (i : ℕ) (ls ms : List Alarm)
    → with_alarm b i (ls ++ ms) ≡ with_alarm b i ls ++ ms
with_more true i ls ms = refl
with_more false i ls ms = refl

alarms_more : (i : ℕ) (ys : List Sample) (y : Sample) (n : ℕ) → n ≡ i + length ys
    → alarms_from i (ys ++ y ∷ []) ≡ alarms_from i ys ++ with_alarm y.alarm n []
alarms_more i [] y n e =
    ap (λ k. with_alarm y.alarm k []) (let same : i ≡ n = omega (arith, e) in same)
alarms_more i (x ∷ ys) y n e =
    ap (with_alarm x.alarm i) (alarms_more (i + 1) ys y n (omega (arith, e)))
    ∙ with_more x.alarm i (alarms_from (i + 1) ys) (with_alarm y.alarm n [])

counts_with : (b : Bool) (i : ℕ) (ls : List Alarm)
    → length (with_alarm b i ls) ≡ cond b 1 0 + length ls
counts_with true i ls = omega arith
counts_with false i ls = omega arith

pub alarms_counted : (i : ℕ) (ys : List Sample) → length (alarms_from i ys) ≡ alarms_in ys
alarms_counted i [] = refl
alarms_counted i (y ∷ ys) =
    counts_with y.alarm i (alarms_from (i + 1) ys)
    ∙ ap (λ n. cond y.alarm 1 0 + n) (alarms_counted (i + 1) ys)

one_at_most : (b : Bool) → cond b 1 0 ≤ 1
one_at_most true = omega arith
one_at_most false = omega arith

few_alarms : (i : ℕ) (ys : List Sample) → length (alarms_from i ys) ≤ length ys
few_alarms i [] = omega arith
few_alarms i (y ∷ ys) =
    let rest = few_alarms (i + 1) ys in
    let here = counts_with y.alarm i (alarms_from (i + 1) ys) in
    omega (arith, rest, here, one_at_most y.alarm)

module _ (m : ℕ) (some : 1 ≤ m) (xs : List Sample) (n : ℕ) (given : n ≡ length xs) where
  abbrev pub old : List Alarm
  old = alarms_from (length xs - m) (last_of m xs)

  -- after the alarm of the sample that goes is cleared
  abbrev pub left : List Alarm
  left = cond (nat_lt n m) old (cleared (n - m) old)

  abbrev from : ℕ
  from = (length xs + 1) - m

  left_is : left ≡ alarms_from from (drop from xs)
  left_is = elim (cases_lt n m) [
    | inl few ↦
        let e : length xs - m ≡ from = omega (arith, few, given) in
        ap (λ b. cond b old (cleared (n - m) old)) (lt-ltb n m few)
        ∙ ap (λ k. alarms_from k (drop k xs)) e
    | inr many ↦
        let first : ℕ = length xs - m in
        let e : n - m ≡ first = omega (arith, given) in
        let f : first + 1 ≡ from = omega (arith, many, given) in
        let d : Sample = record { value = 0; alarm = false } in
        ap (λ b. cond b old (cleared (n - m) old)) (le-ltb n m many)
        ∙ ap (λ k. cleared k old) e
        ∙ at_drop_more (λ zs. cleared first (alarms_from first zs)) xs first d
        (omega (arith, many, given, some))
        ∙ first_cleared (slice_index_or xs first d).alarm first
        (alarms_from (first + 1) (drop (first + 1) xs))
        (none_of first (first + 1) (drop (first + 1) xs) (inl (omega arith)))
        ∙ ap (λ k. alarms_from k (drop k xs)) f
  ]

  few_left : length (drop from xs) + from ≡ length xs
  few_left = omega (arith, length-drop from xs, some)

  pub not_left : stands n left ≡ false
  not_left =
      ap (stands n) left_is
      ∙ none_of n from (drop from xs) (inr (omega (arith, few_left, given)))

  pub room_left : length left < m
  room_left =
      omega (arith, ap length left_is, few_alarms from (drop from xs), few_left, some)

  -- and the alarm of the one that comes is raised
  pub alarms_next : (x : Sample) → left ++ with_alarm x.alarm n []
      ≡ alarms_from (length (xs ++ x ∷ []) - m) (last_of m (xs ++ x ∷ []))
  alarms_next x =
      let e : from ≡ length (xs ++ x ∷ []) - m = omega (arith, length_push xs x) in
      ap (λ ls. ls ++ with_alarm x.alarm n []) left_is
      ∙ sym (alarms_more from (drop from xs) x n (omega (arith, few_left, given)))
      ∙ ap (alarms_from from) (sym (drop-append-le from xs (x ∷ []) (omega (arith, some))))
      ∙ ap (λ k. alarms_from k (drop k (xs ++ x ∷ []))) e
