-- The log of a role after its ticks, and how long it is.
use Rattle.std.proofs.Common.{◌≡◌, ℕ, zero, suc, ◌+◌, ◌*◌, ◌/◌, ◌%◌, ◌<◌, ◌≤◌, ◌^◌, ◌==◌, Bool, true, false, inl, inr, List, [], ◌∷◌, ◌++◌, length, length-append, map, append_assoc, Option, Some, None, sym, refl, ap, ◌∙◌, subst, eq-eqb, ne_eqb, arith}
use Rattle.std.proofs.Math.Numerals.{add-one}
use Rattle.std.proofs.lemmas.Bool.{cases_eq}
use Rattle.std.specs.Vec.{vec_capacity}
use Rattle.never_heap.specs.Histories.{HistoryItem}
use Rattle.live_tables.specs.rows.Workers.{IsSameWorker}
use Rattle.plantrun_core.proofs.SameWorker.{same_first, same_then}
use Rattle.array_tables.specs.tag_table.Tables.{Tag}
use Rattle.array_tables.specs.declared.tag_table.operation.Operation.{Operation}
use Rattle.array_tables.specs.declared.tag_table.operation.Operation.TheVariants.{Read, Write}
use Rattle.plantrun_core.specs.declared.alarms.Limits.{Limits}
use Rattle.plantrun_core.specs.declared.calls.Done.{Done}
use Rattle.plantrun_core.specs.declared.hand.Hand.{Hand}
use Rattle.plantrun_core.specs.declared.law.Loop.{Loop}
use Rattle.plantrun_core.specs.declared.roles.Role.{Role}
use Rattle.plantrun_core.specs.declared.roles.Role.TheVariants.{Control, Alarms, History}
use Rattle.plantrun_core.specs.declared.work.Work.{Work}
use Rattle.plantrun_core.specs.Alarms.{act_of, move_of}
use Rattle.plantrun_core.specs.Roles.{AfterTicks, HasControlled, HasStored, HasRecorded, HasReread, HasScanned, HasScannedTo, HasTicked, HasWatched, IsFine, acted, are_there, closed, did, limits_of, put_in_ring, word}
use Rattle.plantrun_core.specs.Laws.{loop_after, value_of}
use Rattle.plantrun_core.specs.Logs.{BeganAfter, HasLogged, operation_of}
use Rattle.plantrun_core.specs.Works.{HasActedAfter, HasControlledAll, HasGone, IsAtWork, at_scan, first_of, most_at, most_in}

pub scanned_more : (i : ℕ) (old mid new : List Done) → HasScannedTo i old mid
    → HasScanned (limits_of i) i mid new → HasScannedTo (i + 1) old new
scanned_more i old mid new so_far here =
    subst (λ (k : ℕ). HasScannedTo k old new) (sym (add-one i)) (mid, so_far, here)

pub three_more : {X : Type 0} (old a b new : List X) (x y z : X) → a ≡ old ++ x ∷ []
    → b ≡ a ++ y ∷ [] → new ≡ b ++ z ∷ [] → new ≡ old ++ x ∷ y ∷ z ∷ []
three_more {X} old a b new x y z first second third =
    third ∙ ap (λ (l : List X). l ++ z ∷ []) (second ∙ ap (λ (l : List X). l ++ y ∷ []) first)
    ∙ append_assoc (old ++ x ∷ []) (y ∷ []) (z ∷ []) ∙ append_assoc old (x ∷ []) (y ∷ z ∷ [])

-- the controller read both tags, and wrote its output with this quality
pub controlled : (before after : Loop) (tick q : ℕ) (old a b new : List Done)
    (measured set replaced : Tag) → after ≡ loop_after before (value_of measured) (value_of set)
    → q ≡ word tick (are_there (value_of measured) (value_of set))
    → HasLogged (Read 0) measured old a → HasLogged (Read 4) set a b
    → HasLogged (Write 9 after.output q) replaced b new → HasControlled before tick old new after
controlled before after tick q old a b new measured set replaced law quality first second third =
    record {
      measured = measured;
      set = set;
      replaced = replaced;
      first = first.0;
      second = second.0;
      third = third.0;
      law = law;
      log = subst (λ (n : ℕ). new ≡ old ++ did (Read 0) measured first.0 ∷ did (Read 4) set second.0 ∷ did (Write 9 after.output n) replaced third.0 ∷ [])
          quality
          (three_more old a b new (did (Read 0) measured first.0) (did (Read 4) set second.0)
          (did (Write 9 after.output q) replaced third.0) first.1 second.1 third.1);
    }

reread_more : (k : ℕ) (old mid new : List Done) (tag : Tag) → HasReread k old mid
    → HasLogged (Read (14 + k)) tag mid new → HasReread (k + 1) old new
reread_more k old mid new tag so_far more =
    subst (λ (n : ℕ). HasReread n old new) (sym (add-one k)) (mid, tag, more.0, so_far, more.1)

ticked_more : (first : Role) (n : ℕ) (old new : List Done) (before after : Role)
    → AfterTicks first n old before → HasTicked before n old new after
    → AfterTicks first (n + 1) new after
ticked_more first n old new before after so_far here =
    subst (λ (k : ℕ). AfterTicks first k new after) (sym (add-one n)) (old, before, so_far, here)

kind_kept : (before after : Role) (n : ℕ) (old new : List Done)
    → HasTicked before n old new after → first_of after ≡ first_of before
kind_kept (Control l) after n old new h = ap first_of h.2
kind_kept Alarms after n old new h = ap first_of h.1
kind_kept History after n old new h = ap first_of h.1

-- ---- how long it is

acted_short : (o : Option Operation) (tag : Tag) (stamp : ℕ) → length (acted o tag stamp) ≤ 1
acted_short None tag stamp = omega arith
acted_short (Some op) tag stamp = omega arith

put_short : (n : ℕ) (measured tag : Tag) (stamp : ℕ)
    → length (put_in_ring n measured tag stamp) ≤ 1
put_short n None tag stamp = omega arith
put_short n (Some p) tag stamp = omega arith

-- a list that ends in these
length_ends : (old end new : List Done) → new ≡ old ++ end → length new ≡ length old + length end
length_ends old end new e = ap length e ∙ length-append old end

pub scanned_length : (l : Limits) (i : ℕ) (old new : List Done) → HasScanned l i old new
    → length new ≤ length old + 4
scanned_length l i old new h =
    let act = acted_short (act_of (move_of l h.kept h.measured h.told) i h.told) h.replaced
    h.fourth in
    let e = length_ends old (did (Read (10 + i)) h.kept h.first ∷ did (Read i) h.measured h.second
    ∷ did (Read (5 + i)) h.told h.third
    ∷ acted (act_of (move_of l h.kept h.measured h.told) i h.told) h.replaced h.fourth) new
    h.log in
    omega (arith, act, e)

pub scanned_to_length : (i : ℕ) (old new : List Done) → HasScannedTo i old new
    → length new ≤ length old + 4 * i
scanned_to_length zero old new h = omega (arith, ap length h)
scanned_to_length (suc i) old new h =
    let one = scanned_length (limits_of i) i h.0 new h.2 in
    let others = scanned_to_length i old h.0 h.1 in
    omega (arith, one, others)

kept_length : (n : ℕ) (old new : List Done) → HasStored n old new → length new ≤ length old + 2
kept_length n old new h =
    let put = put_short n h.measured h.replaced h.second in
    let e = length_ends old
    (did (Read 0) h.measured h.first ∷ put_in_ring n h.measured h.replaced h.second) new h.log in
    omega (arith, put, e)

watched_length : (b : Bool) (old new : List Done) → HasWatched b old new
    → length new ≤ length old + at_scan b 16
watched_length true old new h = scanned_to_length 4 old new h
watched_length false old new h = omega (arith, ap length h)

recorded_length : (b : Bool) (n : ℕ) (old new : List Done) → HasRecorded b n old new
    → length new ≤ length old + at_scan b 2
recorded_length true n old new h = kept_length n old new h
recorded_length false n old new h = omega (arith, ap length h)

ticked_length : (before after : Role) (n : ℕ) (old new : List Done)
    → HasTicked before n old new after → length new ≤ length old + most_at before n
ticked_length (Control l) after n old new h =
    let e = length_ends old _ new h.1.log in omega (arith, e)
ticked_length Alarms after n old new h = watched_length (n % 5 == 0) old new h.0
ticked_length History after n old new h = recorded_length (n % 5 == 0) (n / 5) old new h.0

most_more : (r : Role) (n : ℕ) → most_in r n + most_at r n ≤ most_in r (n + 1)
most_more (Control l) n = omega arith
most_more Alarms n = elim (cases_eq (n % 5) 0) [
  | inl e ↦ rw (eq-eqb (n % 5) 0 e) (omega arith)
  | inr ne ↦ rw (ne_eqb (n % 5) 0 ne) (omega arith)
]
most_more History n = elim (cases_eq (n % 5) 0) [
  | inl e ↦ rw (eq-eqb (n % 5) 0 e) (omega arith)
  | inr ne ↦ rw (ne_eqb (n % 5) 0 ne) (omega arith)
]

pub most_mono : (r : Role) (m n : ℕ) → m ≤ n → most_in r m ≤ most_in r n
most_mono (Control l) m n le = omega arith
most_mono Alarms m n le = omega arith
most_mono History m n le = omega arith

most_first : (r : Role) (n : ℕ) → most_in r n ≡ most_in (first_of r) n
most_first (Control l) n = refl
most_first Alarms n = refl
most_first History n = refl

most_same : (a b : Role) (n : ℕ) → first_of a ≡ first_of b → most_in a n ≡ most_in b n
most_same a b n e =
    most_first a n ∙ ap (λ (r : Role). most_in r n) e ∙ sym (most_first b n)

pub log_length : (first : Role) (n : ℕ) (log : List Done) (role : Role)
    → AfterTicks first n log role → length log ≤ most_in role n
log_length first zero log role h = omega (arith, ap length h.0)
log_length first (suc n) log role h =
    let so_far = log_length first n h.0 h.1 h.2 in
    let here = ticked_length h.1 role n h.0 log h.3 in
    let most = most_more h.1 n in
    let same = most_same role h.1 (n + 1) (kind_kept h.1 role n h.0 log h.3) in
    subst (λ (k : ℕ). length log ≤ most_in role k) (add-one n)
    (omega (arith, so_far, here, most, same))

-- how long a log is at most
abbrev pub longest : ℕ
longest = 16 * 1048576

few_in : (r : Role) (n : ℕ) → n ≤ 1048576 → most_in r n + 32 ≤ longest
few_in (Control l) n le = omega (arith, le)
few_in Alarms n le = omega (arith, le)
few_in History n le = omega (arith, le)

-- the log of a thread that has done all its ticks
pub whole_log : (count : ℕ) (w : Work) (first : Role) → IsAtWork count w
    → first_of w.role ≡ first → w.ticks ≡ count
    → AfterTicks first count w.hand.calls.items w.role
whole_log count w first is kind whole =
    subst (λ (n : ℕ). AfterTicks first n w.hand.calls.items w.role) whole
    (subst (λ (r : Role). AfterTicks r w.ticks w.hand.calls.items w.role) kind is.worked)

pub whole_short : (count : ℕ) (w : Work) (first : Role) → IsAtWork count w
    → first_of w.role ≡ first → w.ticks ≡ count
    → length w.hand.calls.items ≤ most_in first count
whole_short count w first is kind whole =
    let most : most_in w.role count ≡ most_in first count =
    most_first w.role count ∙ ap (λ (r : Role). most_in r count) kind in
    subst (λ (n : ℕ). length w.hand.calls.items ≤ n) most
    (log_length first count w.hand.calls.items w.role (whole_log count w first is kind whole))

pub whole_few : (count : ℕ) (w : Work) (first : Role) → IsAtWork count w
    → first_of w.role ≡ first → w.ticks ≡ count → count ≤ 1048576
    → length w.hand.calls.items + 32 ≤ 2 ^ 24
whole_few count w first is kind whole le =
    omega (arith, whole_short count w first is kind whole, few_in first count le)

-- the controller has done one tick more
pub tick_more : (count : ℕ) (w : Work) (before after : Loop) (new : List Done)
    → w.role ≡ Control before → AfterTicks closed count w.hand.calls.items w.role
    → HasControlled before count w.hand.calls.items new after → HasControlledAll count new
tick_more count w before after new is so_far here = (
  Control after,
  (
    w.hand.calls.items,
    Control before,
    subst (AfterTicks closed count w.hand.calls.items) is so_far,
    (after, here, refl),
  ),
)

-- and began that after all of this history
pub acted_after : (seen : List HistoryItem) (tick : ℕ) (before after : Loop) (old : List Done)
    (hand : Hand) → HasControlled before tick old hand.calls.items after
    → BeganAfter seen (map operation_of old) hand.who → HasActedAfter seen hand
acted_after seen tick before after old hand here began = record {
  earlier = old;
  tick = did (Read 0) here.measured here.first ∷ did (Read 4) here.set here.second
      ∷ did (Write 9 after.output (word tick (are_there (value_of here.measured) (value_of here.set))))
      here.replaced here.third ∷ [];
  split = here.log;
  three = refl;
  began = began;
}

pub reread_on : (k : ℕ) (old mid new : List Done) (tag : Tag)
    → HasLogged (Read (14 + k)) tag mid new → HasReread k old mid
    → HasReread (k + 1) old new × (length new ≡ length mid + 1)
reread_on k old mid new tag h so_far = (
  reread_more k old mid new tag so_far h,
  ap length h.1 ∙ length-append mid (did (Read (14 + k)) tag h.0 ∷ []),
)

-- ---- a thread goes on

pub gone_none : (count : ℕ) (w : Work) → IsAtWork count w → HasGone count w w
gone_none count w is =
    record { same = same_first w.hand.who; first = refl; capacity = refl; work = is }

pub gone_then : (count : ℕ) (a b c : Work) → HasGone count a b → HasGone count b c
    → HasGone count a c
gone_then count a b c f g = record {
  same = same_then a.hand.who b.hand.who c.hand.who f.same g.same;
  first = g.first ∙ f.first;
  capacity = g.capacity ∙ f.capacity;
  work = g.work;
}

-- there is room for what it does at its next tick
pub room_next : (count : ℕ) (w : Work) → IsAtWork count w → w.ticks < count
    → length w.hand.calls.items + most_at w.role w.ticks ≤ vec_capacity w.hand.calls
room_next count w is more =
    let so_far = log_length (first_of w.role) w.ticks w.hand.calls.items w.role is.worked in
    let here = most_more w.role w.ticks in
    let rest = most_mono w.role (w.ticks + 1) count (omega arith) in
    omega (arith, so_far, here, rest, is.room)

pub few_next : (count : ℕ) (w : Work) → IsAtWork count w → w.ticks < count → count ≤ 1048576
    → length w.hand.calls.items + most_at w.role w.ticks ≤ 2 ^ 24
few_next count w is more le =
    let so_far = log_length (first_of w.role) w.ticks w.hand.calls.items w.role is.worked in
    let here = most_more w.role w.ticks in
    let few = few_in w.role (w.ticks + 1) (omega (arith, more, le)) in
    omega (arith, so_far, here, few)

pub gone_on : (count : ℕ) (old new : Work) → IsAtWork count old → old.ticks < count
    → IsSameWorker old.hand.who new.hand.who
    → vec_capacity new.hand.calls ≡ vec_capacity old.hand.calls → IsFine new.role
    → HasTicked old.role old.ticks old.hand.calls.items new.hand.calls.items new.role
    → new.ticks ≡ old.ticks + 1 → HasGone count old new
gone_on count old new is more same capacity fine here ticks = record {
  same = same;
  first = kind;
  capacity = capacity;
  work = record {
    few = omega (arith, ticks);
    room = omega (arith, most_same new.role old.role count kind, is.room, capacity);
    fine = fine;
    worked = subst (λ (k : ℕ). AfterTicks (first_of new.role) k new.hand.calls.items new.role)
        (sym ticks)
        (subst (λ (r : Role). AfterTicks r (old.ticks + 1) new.hand.calls.items new.role) (sym kind)
        (ticked_more (first_of old.role) old.ticks old.hand.calls.items new.hand.calls.items old.role
        new.role is.worked here));
  };
}
  where
    kind : first_of new.role ≡ first_of old.role
    kind = kind_kept old.role new.role old.ticks old.hand.calls.items new.hand.calls.items here
