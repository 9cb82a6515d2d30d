-- Readings as samples, and their figures, the newest reading first.
use Rattle.std.proofs.Common.{◌≡◌, ℕ, ◌+◌, ◌-◌, ◌*◌, ◌<◌, Bool, min, max, List, [], ◌∷◌, ◌++◌, length, drop, slice_index_or, sym, refl, ap, ◌∙◌, subst, arith}
use Rattle.std.proofs.lemmas.List.{at_drop_more, drop-map, length-map, length_push, map-append}
use Rattle.heap_structures.specs.Circles.{last_of}
use Rattle.heap_structures.specs.Trends as trends
use Rattle.heap_structures.specs.Trends.{values_in}
use Rattle.heap_structures.specs.declared.trend.Sample.{Sample}
use Rattle.historian_core.specs.declared.Figures.{Figures}
use Rattle.historian_core.specs.declared.Historian.{Historian}
use Rattle.historian_core.specs.declared.Limits.{Limits}
use Rattle.historian_core.specs.StoredReadings.{IsGiven, Stores, counted, counted_in, samples}
use Rattle.historian_core.specs.Windows.{alarms_in, figures_of, greatest_in, is_alarm, last_ones, least_in, mark, total_in}

values_are : (l : Limits) (ys : List ℕ) → values_in (samples l ys) ≡ ys
values_are l [] = refl
values_are l (y ∷ ys) = ap (λ zs. y ∷ zs) (values_are l ys)

alarms_are : (l : Limits) (ys : List ℕ) → trends.alarms_in (samples l ys) ≡ alarms_in l ys
alarms_are l [] = refl
alarms_are l (y ∷ ys) = ap (λ n. mark l y + n) (alarms_are l ys)

figures_are : (l : Limits) (xs : List ℕ)
    → counted_in (samples l xs) ≡ figures_of l (last_ones xs)
figures_are l xs =
    let f : ℕ → Sample = λ x. record { value = x; alarm = is_alarm l x } in
    let last : last_of 40 (samples l xs) ≡ samples l (last_ones xs) =
    ap (λ n. drop (n - 40) (samples l xs)) (length-map xs f) ∙ drop-map f (length xs - 40) xs in
    (λ t. counted (trends.alarms_in (last t)) (values_in (last t)))
    ∙ (λ t. counted (alarms_are l (last_ones xs) t) (values_are l (last_ones xs) t))

pub long_as : (l : Limits) (xs : List ℕ) → length (samples l xs) ≡ length xs
long_as l xs = length-map xs (λ x. record { value = x; alarm = is_alarm l x })

-- a historian knows how many readings it was given
pub as_long : (h : Historian) (l : Limits) (xs ys : List ℕ) → Stores h l xs → Stores h l ys
    → length xs ≡ length ys
as_long h l xs ys k m =
    omega (arith, long_as l xs, long_as l ys, k.pushed, m.pushed)

-- one reading more
pub keeps_on : (l : Limits) (xs : List ℕ) (x : ℕ) (b : Bool) → b ≡ is_alarm l x → (h : Historian)
    (f : Figures)
    → (f ≡ counted_in (samples l xs ++ record { value = x; alarm = b } ∷ []))
    × IsGiven h (2 + 207 * length xs + 127 + 80) (samples l xs ++ record { value = x; alarm = b } ∷ [])
    → (f ≡ figures_of l (last_ones (xs ++ x ∷ []))) × Stores h l (xs ++ x ∷ [])
keeps_on l xs x b is h f by =
    let g : ℕ → Sample = λ y. record { value = y; alarm = is_alarm l y } in
    let e : samples l xs ++ record { value = x; alarm = b } ∷ [] ≡ samples l (xs ++ x ∷ []) =
    (λ t. samples l xs ++ record { value = x; alarm = is t } ∷ [])
    ∙ sym (map-append g xs (x ∷ [])) in
    let most : 2 + 207 * length xs + 127 + 80 ≡ 2 + 207 * length (xs ++ x ∷ []) =
    omega (arith, length_push xs x) in (
      by.0 ∙ ap counted_in e ∙ figures_are l (xs ++ x ∷ []),
      subst (λ (p : ℕ × List Sample). IsGiven h p.0 p.1) (λ t. (most t, e t)) by.1,
    )

-- ---- figures, the newest reading first

abbrev pub grown : Figures → ℕ → Figures
grown f v = record {
  least = min v f.least;
  greatest = max v f.greatest;
  total = v + f.total;
  count = f.count + 1;
  alarms = f.alarms;
}

counted_one : (n y : ℕ) (ys : List ℕ) → grown (counted n ys) y ≡ counted n (y ∷ ys)
counted_one n y ys =
    let long : length ys + 1 ≡ length (y ∷ ys) = omega arith in
    ap (λ k. record {
      least = min y (least_in ys);
      greatest = max y (greatest_in ys);
      total = y + total_in ys;
      count = k;
      alarms = n;
    }) long

pub counted_next : (n kept back v : ℕ) (ys : List ℕ) (f : Figures) → kept ≡ length ys → back < kept
    → v ≡ slice_index_or ys ((kept - 1) - back) 0 → f ≡ counted n (drop (kept - back) ys)
    → grown f v ≡ counted n (drop (kept - (back + 1)) ys)
counted_next n kept back v ys f long low is e =
    let k : ℕ = (kept - 1) - back in
    let now : kept - back ≡ k + 1 = omega (arith, low) in
    let next : k ≡ kept - (back + 1) = omega (arith, low) in
    (λ t. grown (e t) (is t)) ∙ ap (λ j. grown (counted n (drop j ys)) (slice_index_or ys k 0)) now
    ∙ counted_one n (slice_index_or ys k 0) (drop (k + 1) ys)
    ∙ sym (at_drop_more (counted n) ys k 0 (omega (arith, long, low)))
    ∙ ap (λ j. counted n (drop j ys)) next
