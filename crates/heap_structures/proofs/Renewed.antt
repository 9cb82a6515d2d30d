-- Structures on a heap that has the graph of their own heap up to names.
use Rattle.std.proofs.Common.{◌≡◌, ℕ, zero, suc, ◌+◌, ◌*◌, ◌^◌, ◌<◌, ◌≤◌, List, [], ◌∷◌, map, slice_index_or, sym, refl, ap, ◌∙◌, subst}
use Rattle.std.specs.List.{AllByRecursion}
use Rattle.std.proofs.lemmas.List.{length-map}
use Rattle.std.proofs.Math.ListN.{get_or-map}
use Rattle.block_store.specs.declared.Name.{Name}
use Rattle.block_store.specs.declared.Value.{Value}
use Rattle.block_store.specs.declared.Value.TheVariants.{Nil, Ref}
use Rattle.never_heap.specs.Graphs.{Graph}
use Rattle.saved_heap.specs.heap_pictures.UpToNames.{AreOneUpToNames, renamed}
use Rattle.heap_structures.specs.declared.cells.Cells.{Cells}
use Rattle.heap_structures.specs.Alarms.{value_of}
use Rattle.heap_structures.specs.declared.alarms.Alarm.{Alarm}
use Rattle.heap_structures.specs.Cells.{IsCells, held}
use Rattle.heap_structures.specs.Circles.{IsCircle, around}
use Rattle.heap_structures.specs.Pairs.{IsRising, Pair}
use Rattle.heap_structures.specs.Renewed.{renamed_pairs, renamed_values, with_array}
use Rattle.heap_structures.specs.Rings.{IsRound}
use Rattle.heap_structures.specs.Tables.{IsTable, place_of}

-- the base register of the other graph
pub base_again : (g z : Graph) (one : AreOneUpToNames g z) (c : Cells) (vs : List Value)
    → IsCells g c vs → held z c.base ≡ Ref (one.to c.array)
base_again g z one c vs is = one.registers c.base ∙ ap (renamed one.to) is.base

pub cells_again : (g z : Graph) (one : AreOneUpToNames g z) (c : Cells) (vs : List Value)
    → IsCells g c vs → IsCells z (with_array c (one.to c.array)) (renamed_values one.to vs)
cells_again g z one c vs is =
    let here = one.roots c.base c.array is.base in
    record {
      base = base_again g z one c vs is;
      named = one.there c.array here;
      values = ap (λ o. o.fields) (one.objects c.array here) ∙ ap (renamed_values one.to) is.values;
      size = length-map vs (renamed one.to) ∙ is.size;
      placed = record {
        size = is.placed.size;
        base = is.placed.base;
        spare = is.placed.spare;
        apart = is.placed.apart;
      };
    }

at_again : (to : Name → Name) (vs : List Value) (i : ℕ)
    → slice_index_or (renamed_values to vs) i Nil ≡ renamed to (slice_index_or vs i Nil)
at_again to vs i = get_or-map (renamed to) vs i Nil

pub circle_again : (to : Name → Name) (n first : ℕ) (vs xs : List Value) → IsCircle n first vs xs
    → IsCircle n first (renamed_values to vs) (renamed_values to xs)
circle_again to n first vs xs is = record {
  long = length-map vs (renamed to) ∙ is.long;
  start = is.start;
  few = subst (λ k. k ≤ n) (sym (length-map xs (renamed to))) is.few;
  places = λ i low. at_again to vs (around n (first + i)) ∙ ap (renamed to) (is.places i low)
      ∙ sym (at_again to xs i);
}

pub round_again : (g z : Graph) (one : AreOneUpToNames g z) (c : Cells) (first count : ℕ)
    (xs : List Value) → IsRound g c first count xs
    → IsRound z (with_array c (one.to c.array)) first count (renamed_values one.to xs)
round_again g z one c first count xs is = record {
  array = renamed_values one.to is.array;
  cells = cells_again g z one c is.array is.cells;
  circle = circle_again one.to c.size first is.array xs is.circle;
  counted = length-map xs (renamed one.to) ∙ is.counted;
}

-- ---- pairs

place_again : (to : Name → Name) (xs : List Pair) (t : ℕ)
    → renamed to (place_of xs t) ≡ place_of (renamed_pairs to xs) t
place_again to [] t = refl
place_again to (x ∷ xs) zero = refl
place_again to (x ∷ xs) (suc zero) = refl
place_again to (x ∷ xs) (suc (suc t)) = place_again to xs t

keys_again : (P : ℕ → Type 0) (to : Name → Name) (xs : List Pair) → AllByRecursion (λ x. P x.0) xs
    → AllByRecursion (λ x. P x.0) (renamed_pairs to xs)
keys_again P to [] all = all
keys_again P to (x ∷ xs) all = (all.0, keys_again P to xs all.1)

rising_again : (to : Name → Name) (xs : List Pair) → IsRising xs → IsRising (renamed_pairs to xs)
rising_again to [] is = is
rising_again to (x ∷ xs) is = (keys_again (λ k. x.0 < k) to xs is.0, rising_again to xs is.1)

pub table_again : (g z : Graph) (one : AreOneUpToNames g z) (c : Cells) (count : ℕ)
    (xs : List Pair) → IsTable g c count xs
    → IsTable z (with_array c (one.to c.array)) count (renamed_pairs one.to xs)
table_again g z one c count xs is =
    let long = length-map xs (λ x. (x.0, renamed one.to x.1)) in
    record {
      array = renamed_values one.to is.array;
      cells = cells_again g z one c is.array is.cells;
      places = λ t. at_again one.to is.array t ∙ ap (renamed one.to) (is.places t)
          ∙ place_again one.to xs t;
      few = subst (λ k. 2 * k ≤ c.size) (sym long) is.few;
      rising = rising_again one.to xs is.rising;
      small = keys_again (λ k. k < 2 ^ 32) one.to xs is.small;
      counted = long ∙ is.counted;
    }

-- ---- alarms, which are numbers

pub alarms_again : (to : Name → Name) (xs : List Alarm)
    → renamed_values to (map value_of xs) ≡ map value_of xs
alarms_again to [] = refl
alarms_again to (x ∷ xs) = ap (λ vs. value_of x ∷ vs) (alarms_again to xs)
