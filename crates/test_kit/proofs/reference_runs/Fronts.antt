-- Parts of a history in its ranges are in their ranges.
use Rattle.std.proofs.Common.{◌≡◌, ℕ, zero, suc, ◌+◌, ◌-◌, ◌<◌, ◌≤◌, Bool, true, false, cond, eqb, List, [], ◌∷◌, length, take, sym, ◌∙◌, subst, arith}
use Rattle.std.proofs.lemmas.List.{take-map}
use Rattle.std.specs.List.{AllByRecursion}
use Rattle.block_store.specs.declared.Config.{Config}
use Rattle.never_heap.specs.Cycles.{before_start, after_start}
use Rattle.never_heap.specs.Histories.{HistoryItem, Started, Did, work_in}
use Rattle.test_kit.specs.declared.reference_runs.Happened.{Happened}
use Rattle.test_kit.specs.reference_runs.Happenings.{item, history}
use Rattle.test_kit.specs.reference_runs.HistoryBounds.{IsHistoryInBounds, IsItemInBounds}
use Rattle.test_kit.proofs.reference_runs.ReplayInRange.{history_length}

-- some of the items of a history, in their order
record IsWithin (c : Config) (k h : List HistoryItem) : Type 0 where
  few : length k ≤ length h
  work : work_in k ≤ work_in h
  each : AllByRecursion (IsItemInBounds c) h → AllByRecursion (IsItemInBounds c) k

within_all : (c : Config) (h : List HistoryItem) → IsWithin c h h
within_all c h = record { few = omega arith; work = omega arith; each = λ e. e }

within_none : (c : Config) (h : List HistoryItem) → IsWithin c [] h
within_none c h = record { few = omega arith; work = omega arith; each = λ e. tt }

work_more : (i : HistoryItem) (k l : List HistoryItem) → work_in k ≤ work_in l
    → work_in (i ∷ k) ≤ work_in (i ∷ l)
work_more Started k l le = le
work_more (Did e) k l le = omega arith

work_behind : (i : HistoryItem) (l : List HistoryItem) → work_in l ≤ work_in (i ∷ l)
work_behind Started l = omega arith
work_behind (Did e) l = omega arith

within_kept : (c : Config) (i : HistoryItem) (k h : List HistoryItem) → IsWithin c k h
    → IsWithin c (i ∷ k) (i ∷ h)
within_kept c i k h w = record {
  few = omega (arith, w.few);
  work = work_more i k h w.work;
  each = λ e. (e.0, w.each e.1);
}

within_behind : (c : Config) (i : HistoryItem) (k h : List HistoryItem) → IsWithin c k h
    → IsWithin c k (i ∷ h)
within_behind c i k h w = record {
  few = omega (arith, w.few);
  work = omega (arith, w.work, work_behind i h);
  each = λ e. w.each e.1;
}

either_within : (c : Config) (b : Bool) (k l h : List HistoryItem) → IsWithin c k h
    → IsWithin c l h → IsWithin c (cond b k l) h
either_within c true k l h first second = first
either_within c false k l h first second = second

take_within : (c : Config) (h : List HistoryItem) (n : ℕ) → IsWithin c (take n h) h
take_within c [] zero = within_all c []
take_within c [] (suc n) = within_all c []
take_within c (i ∷ h) zero = within_none c (i ∷ h)
take_within c (i ∷ h) (suc n) = within_kept c i (take n h) h (take_within c h n)

before_within : (c : Config) (h : List HistoryItem) (z : ℕ) → IsWithin c (before_start z h) h
before_within c [] z = within_all c []
before_within c (Did e ∷ h) z =
    within_kept c (Did e) (before_start z h) h (before_within c h z)
before_within c (Started ∷ h) z =
    either_within c (eqb z 1) [] (Started ∷ before_start (z - 1) h) (Started ∷ h)
    (within_none c (Started ∷ h))
    (within_kept c Started (before_start (z - 1) h) h (before_within c h (z - 1)))

after_within : (c : Config) (h : List HistoryItem) (z : ℕ) → IsWithin c (after_start z h) h
after_within c [] z = within_all c []
after_within c (Did e ∷ h) z =
    within_behind c (Did e) (after_start z h) h (after_within c h z)
after_within c (Started ∷ h) z =
    either_within c (eqb z 1) h (after_start (z - 1) h) (Started ∷ h)
    (within_behind c Started h h (within_all c h))
    (within_behind c Started (after_start (z - 1) h) h (after_within c h (z - 1)))

in_bounds : (c : Config) (k h : List HistoryItem) → IsWithin c k h → IsHistoryInBounds c h
    → IsHistoryInBounds c k
in_bounds c k h w b = record {
  config = b.config;
  few = omega (arith, w.few, b.few);
  each = w.each b.each;
  work = omega (arith, w.work, b.work);
}

pub front_in_bounds : (c : Config) (h : List Happened) (n : ℕ) → IsHistoryInBounds c (history h)
    → IsHistoryInBounds c (history (take n h))
front_in_bounds c h n b =
    subst (IsHistoryInBounds c) (take-map item n h)
    (in_bounds c (take n (history h)) (history h) (take_within c (history h) n) b)

-- the part before a start, and the part after one
pub before_in_bounds : (c : Config) (h k : List Happened) (z : ℕ)
    → history k ≡ before_start z (history h) → IsHistoryInBounds c (history h)
    → IsHistoryInBounds c (history k)
before_in_bounds c h k z is b =
    subst (IsHistoryInBounds c) (sym is)
    (in_bounds c (before_start z (history h)) (history h) (before_within c (history h) z) b)

pub after_in_bounds : (c : Config) (h k : List Happened) (z : ℕ)
    → history k ≡ after_start z (history h) → IsHistoryInBounds c (history h)
    → IsHistoryInBounds c (history k)
after_in_bounds c h k z is b =
    subst (IsHistoryInBounds c) (sym is)
    (in_bounds c (after_start z (history h)) (history h) (after_within c (history h) z) b)

pub few_items : (c : Config) (h : List Happened) → IsHistoryInBounds c (history h)
    → length h ≤ 131072
few_items c h b = let long = history_length h in omega (arith, b.few)
