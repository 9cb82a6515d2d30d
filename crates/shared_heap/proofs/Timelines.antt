-- Timelines: their histories and invocations, and how a turn or a command extends them.
use Rattle.std.proofs.Common.{◌≡◌, ℕ, ◌<◌, ◌≤◌, ◌+◌, Bool, true, false, cond, eqb, eq-eqb, ne_eqb, refl, arith, subst, sym, ap, ◌∙◌, List, [], ◌∷◌, ◌++◌, append-nil, length, length-append, get_or, map, take, drop, inl, inr, ◌⊎◌, set, get_or-set_same, get_or-set_other}
use Rattle.std.proofs.lemmas.Bool.{cases_eq, cases_lt}
use Rattle.std.proofs.lemmas.List.{length-map}
use Rattle.block_store.specs.declared.Config.{Config}
use Rattle.never_heap.specs.declared.Command.{Command}
use Rattle.never_heap.specs.declared.Entry.{Entry}
use Rattle.never_heap.specs.Histories.{HistoryItem, Started, Did, part}
use Rattle.never_heap.proofs.Lemmas.{part_append}
use Rattle.heap_system.specs.Locals.{LocalState, is_done}
use Rattle.heap_system.specs.Machines.{Run, IsAfterTurns, decided, local_in, next, no_local}
use Rattle.heap_system.proofs.Lemmas.{Kept, as_long, as_many_commands, at_rest, kept_of}
use Rattle.control_heap.specs.Growth.{given, grown, run_grown}
use Rattle.control_heap.proofs.GrownRuns.{local_grown}
use Rattle.shared_heap.specs.declared.rules.Moment.{Moment}
use Rattle.shared_heap.specs.declared.rules.Moment.TheVariants as moments
use Rattle.shared_heap.specs.RealTime.{KeepsRealTime}
use Rattle.shared_heap.specs.Workers.{AllStart}
use Rattle.shared_heap.specs.Shared.{AllNotedIn, IsCountUnlessWrapped, IsWellFormed, IsStartOf, IsTimelineOf, history_of, invoked_in, stamps_in}
use Rattle.shared_heap.proofs.ThreadFacts.{told_at_rest}
use Rattle.shared_heap.proofs.Views.{history_is, moments_of, none_invoked, starts_itself}

-- ---- two parts of a timeline

pub history_append : (xs ys : List Moment) → history_of (xs ++ ys) ≡ history_of xs ++ history_of ys
history_append [] ys = refl
history_append (moments.Began ∷ xs) ys = ap (λ o. Started ∷ o) (history_append xs ys)
history_append (moments.Invoked t k ∷ xs) ys = history_append xs ys
history_append (moments.Stamped ∷ xs) ys = history_append xs ys
history_append (moments.TookEffect e ∷ xs) ys = ap (λ o. Did e ∷ o) (history_append xs ys)

cons_if : (b : Bool) (k : Command) (xs ys zs : List Command) → xs ≡ ys ++ zs → cond b (k ∷ xs) xs ≡ cond b (k ∷ ys) ys ++ zs
cons_if true k xs ys zs e = ap (λ l. k ∷ l) e
cons_if false k xs ys zs e = e

pub invoked_append : (t : ℕ) (xs ys : List Moment) → invoked_in t (xs ++ ys) ≡ invoked_in t xs ++ invoked_in t ys
invoked_append t [] ys = refl
invoked_append t (moments.Began ∷ xs) ys = invoked_append t xs ys
invoked_append t (moments.Invoked u k ∷ xs) ys = cons_if (eqb u t) k _ _ _ (invoked_append t xs ys)
invoked_append t (moments.Stamped ∷ xs) ys = invoked_append t xs ys
invoked_append t (moments.TookEffect e ∷ xs) ys = invoked_append t xs ys

pub stamps_append : (xs ys : List Moment) → stamps_in (xs ++ ys) ≡ stamps_in xs + stamps_in ys
stamps_append [] ys = omega arith
stamps_append (moments.Began ∷ xs) ys = stamps_append xs ys
stamps_append (moments.Invoked t k ∷ xs) ys = stamps_append xs ys
stamps_append (moments.Stamped ∷ xs) ys = omega (arith, stamps_append xs ys)
stamps_append (moments.TookEffect e ∷ xs) ys = stamps_append xs ys

-- the same count of stamps
pub counts_same : (n : ℕ) (xs ys : List Moment) → stamps_in ys ≡ 0 → IsCountUnlessWrapped n (stamps_in xs) → IsCountUnlessWrapped n (stamps_in (xs ++ ys))
counts_same n xs ys none is = subst (IsCountUnlessWrapped n) (let e : stamps_in xs ≡ stamps_in (xs ++ ys) = omega (arith, stamps_append xs ys, none) in e) is

-- an invocation is no item of the history
pub invoked_history : (xs : List Moment) (t : ℕ) (k : Command) → history_of (xs ++ moments.Invoked t k ∷ []) ≡ history_of xs
invoked_history xs t k = history_append xs (moments.Invoked t k ∷ []) ∙ append-nil (history_of xs)

-- ---- prefixes of a timeline

pub history_start : (xs ys : List Moment) → IsStartOf xs ys → IsStartOf (history_of xs) (history_of ys)
history_start xs ys is = (history_of is.0, ap history_of is.1 ∙ history_append xs is.0)

pub part_start : (t : ℕ) (xs ys : List Moment) → IsStartOf xs ys → length (part t (history_of xs)) ≤ length (part t (history_of ys))
part_start t xs ys is =
    let h = history_start xs ys is in
    omega (arith, ap (λ o. length (part t o)) h.1, ap length (part_append t (history_of xs) h.0), length-append (part t (history_of xs)) (part t h.0))

pub invoked_start : (t : ℕ) (xs ys : List Moment) → IsStartOf xs ys → length (invoked_in t xs) ≤ length (invoked_in t ys)
invoked_start t xs ys is =
    omega (arith, ap (λ o. length (invoked_in t o)) is.1, ap length (invoked_append t xs is.0), length-append (invoked_in t xs) (invoked_in t is.0))

pub stamps_start : (xs ys : List Moment) → IsStartOf xs ys → stamps_in xs ≤ stamps_in ys
stamps_start xs ys is = omega (arith, ap stamps_in is.1, stamps_append xs is.0)

pub noted_start : (timeline : List Moment) (ns : List (List Moment)) → AllNotedIn timeline ns → AllStart (map history_of ns) (history_of timeline)
noted_start timeline [] all = tt
noted_start timeline (n ∷ ns) all = (history_start n timeline all.0, noted_start timeline ns all.1)

-- a prefix of two appended lists is a prefix of the first, or the first is a prefix of it
pub start_cases : {A : Type 0} (p xs ys : List A) → IsStartOf p (xs ++ ys) → IsStartOf p xs ⊎ IsStartOf xs p
start_cases [] xs ys is = inl (xs, refl)
start_cases (x ∷ p) [] ys is = inr (x ∷ p, refl)
start_cases (x ∷ p) (y ∷ xs) ys is =
    let head : y ≡ x = ap (λ l. get_or l 0 x) is.1 in
    let tail : xs ++ ys ≡ p ++ is.0 = ap (drop 1) is.1 in
    elim (start_cases p xs ys (is.0, tail)) [
      | inl s ↦ inl (s.0, λ i. head i ∷ s.1 i)
      | inr s ↦ inr (s.0, λ i. sym head i ∷ s.1 i)
    ]

-- a prefix ends before an item, or has it
pub before_or_after : {A : Type 0} (xs more ys : List A) (i : A) (ws : List A) → ys ++ i ∷ ws ≡ xs ++ more → IsStartOf xs ys ⊎ IsStartOf (ys ++ i ∷ []) xs
before_or_after [] more ys i ws e = inl (ys, refl)
before_or_after (x ∷ xs) more [] i ws e =
    let head : i ≡ x = ap (λ l. get_or l 0 x) e in
    inr (xs, ap (λ y. y ∷ xs) (sym head))
before_or_after (x ∷ xs) more (y ∷ ys) i ws e =
    let head : y ≡ x = ap (λ l. get_or l 0 x) e in
    elim (before_or_after xs more ys i ws (ap (drop 1) e)) [
      | inl s ↦ inl (s.0, λ j. head j ∷ s.1 j)
      | inr s ↦ inr (s.0, λ j. sym head j ∷ s.1 j)
    ]

-- a timeline stays well-formed where the new entries are of commands invoked before, and no thread
-- has two commands without an entry
pub formed_more : (xs ys : List Moment) → IsWellFormed xs
    → ((t : ℕ) → (length (part t (history_of (xs ++ ys))) ≤ length (invoked_in t xs)) × (length (invoked_in t (xs ++ ys)) ≤ length (part t (history_of xs)) + 1))
    → IsWellFormed (xs ++ ys)
formed_more xs ys formed few p is t = elim (start_cases p xs ys is) [
  | inl s ↦ formed p s t
  | inr s ↦ (
    omega (arith, part_start t p (xs ++ ys) is, (few t).0, invoked_start t xs p s),
    omega (arith, invoked_start t p (xs ++ ys) is, (few t).1, part_start t xs p s),
  )
]

-- a well-formed timeline keeps real-time order
pub keeps_real_time : (timeline : List Moment) (order : List HistoryItem) → order ≡ history_of timeline → IsWellFormed timeline → KeepsRealTime timeline order
keeps_real_time timeline order is formed p start t n u m many few =
    let h = history_start p timeline start in
    record {
      first = history_of p;
      later = h.0;
      split = is ∙ h.1;
      many = many;
      few = omega (arith, (formed p start u).0, few);
    }

-- ---- the timeline of a run

module _ (c : Config) (t : ℕ) (tl : t < c.threads) (r : Run) (is : IsAfterTurns c r) (timeline : List Moment) (lined : IsTimelineOf c r timeline) where
  kept : Kept c is.traces r
  kept = kept_of c r is

  formed_now : (u : ℕ) → (length (part u (history_of timeline)) ≤ length (invoked_in u timeline)) × (length (invoked_in u timeline) ≤ length (part u (history_of timeline)) + 1)
  formed_now u = lined.formed timeline (starts_itself timeline) u

  -- a turn of thread t
  module _ (after : IsAfterTurns c (next c t r)) (same : after.traces ≡ is.traces) where
    abbrev items : List Moment
    items = moments_of (decided c t r.state r.order)

    kept_then : Kept c after.traces (next c t r)
    kept_then = kept_of c (next c t r) after

    order_is : (next c t r).order ≡ history_of (timeline ++ items)
    order_is =
        ap (λ o. o ++ decided c t r.state r.order) lined.ordered
        ∙ ap (λ o. history_of timeline ++ o) (sym (history_is (decided c t r.state r.order)))
        ∙ sym (history_append timeline items)

    still : (u : ℕ) → invoked_in u (timeline ++ items) ≡ invoked_in u timeline
    still u = invoked_append u timeline items ∙ ap (λ l. invoked_in u timeline ++ l) (none_invoked u (decided c t r.state r.order)) ∙ append-nil (invoked_in u timeline)

    trace_is : (u : ℕ) → u < c.threads → (local_in c r u).trace ≡ (local_in c (next c t r) u).trace
    trace_is u ul = (kept.locals u ul).trace ∙ ap (λ xs. get_or xs u []) (sym same) ∙ sym (kept_then.locals u ul).trace

    few_entries : (u : ℕ) → length (part u (history_of (timeline ++ items))) ≤ length (invoked_in u timeline)
    few_entries u = elim (cases_lt u c.threads) [
      | inl ul ↦ omega (arith, as_many_commands c (next c t r) after u ul, ap (λ o. length (part u o)) order_is, ap length (trace_is u ul), ap length (lined.invoked u ul))
      | inr high ↦ omega (arith, ap length (kept_then.foreign u high), ap (λ o. length (part u o)) order_is)
    ]

    pub timeline_next : IsTimelineOf c (next c t r) (timeline ++ items)
    timeline_next = record {
      ordered = order_is;
      invoked = λ u ul. still u ∙ lined.invoked u ul ∙ trace_is u ul;
      others = λ u high. still u ∙ lined.others u high;
      formed = formed_more timeline items lined.formed (λ u. (few_entries u, omega (arith, ap length (still u), (formed_now u).1)));
    }

  -- a stamp
  pub timeline_stamped : IsTimelineOf c r (timeline ++ moments.Stamped ∷ [])
  timeline_stamped =
      let same : history_of timeline ≡ history_of (timeline ++ moments.Stamped ∷ []) = sym (history_append timeline (moments.Stamped ∷ []) ∙ append-nil (history_of timeline)) in
      let silent : (u : ℕ) → invoked_in u (timeline ++ moments.Stamped ∷ []) ≡ invoked_in u timeline = (λ u. invoked_append u timeline (moments.Stamped ∷ []) ∙ append-nil (invoked_in u timeline)) in
      record {
        ordered = lined.ordered ∙ same;
        invoked = λ u ul. silent u ∙ lined.invoked u ul;
        others = λ u high. silent u ∙ lined.others u high;
        formed = formed_more timeline (moments.Stamped ∷ []) lined.formed (λ u. (omega (arith, ap (λ o. length (part u o)) same, (formed_now u).0), omega (arith, ap length (silent u), (formed_now u).1)));
      }

  -- a command of thread t, which is done with those before
  module _ (k : Command) (done : is_done (local_in c r t) ≡ true) where
    abbrev item : List Moment
    item = moments.Invoked t k ∷ []

    same_history : history_of timeline ≡ history_of (timeline ++ item)
    same_history = sym (invoked_history timeline t k)

    own_command : invoked_in t item ≡ k ∷ []
    own_command = rw (eq-eqb t t refl) refl

    no_command : (u : ℕ) → (t ≡ u → ⊥) → invoked_in u item ≡ []
    no_command u ne = rw (ne_eqb t u ne) refl

    own_trace : (local_in c r t).trace ++ k ∷ [] ≡ (local_in c (run_grown t k r) t).trace
    own_trace =
        ap (λ b. (cond b (given k (local_in c r t)) (local_in c r t)).trace) (sym (eq-eqb (local_in c r t).thread t (kept.locals t tl).thread))
        ∙ ap (λ (l : LocalState). l.trace) (sym (local_grown t k c tl r.state t))

    other_trace : (u : ℕ) → u < c.threads → (t ≡ u → ⊥) → (local_in c r u).trace ≡ (local_in c (run_grown t k r) u).trace
    other_trace u ul ne =
        ap (λ b. (cond b (given k (local_in c r u)) (local_in c r u)).trace) (sym (ne_eqb (local_in c r u).thread t (λ e. ne (sym e ∙ (kept.locals u ul).thread))))
        ∙ ap (λ (l : LocalState). l.trace) (sym (local_grown t k c tl r.state u))

    own_invoked : invoked_in t (timeline ++ item) ≡ invoked_in t timeline ++ k ∷ []
    own_invoked = invoked_append t timeline item ∙ ap (λ l. invoked_in t timeline ++ l) own_command

    other_invoked : (u : ℕ) → (t ≡ u → ⊥) → invoked_in u (timeline ++ item) ≡ invoked_in u timeline
    other_invoked u ne = invoked_append u timeline item ∙ ap (λ l. invoked_in u timeline ++ l) (no_command u ne) ∙ append-nil (invoked_in u timeline)

    invoked_then : (u : ℕ) → u < c.threads → invoked_in u (timeline ++ item) ≡ (local_in c (run_grown t k r) u).trace
    invoked_then u ul = elim (cases_eq t u) [
      | inl e ↦ subst (λ v. invoked_in v (timeline ++ item) ≡ (local_in c (run_grown t k r) v).trace) e
          (own_invoked ∙ ap (λ l. l ++ k ∷ []) (lined.invoked t tl) ∙ own_trace)
      | inr ne ↦ other_invoked u ne ∙ lined.invoked u ul ∙ other_trace u ul ne
    ]

    -- thread t has as many entries as commands
    none_pending : length (invoked_in t timeline) ≡ length (part t (history_of timeline))
    none_pending =
        ap length (lined.invoked t tl) ∙ sym (as_long (local_in c r t) done)
        ∙ ap length (sym (told_at_rest c t tl r is (at_rest (local_in c r t) done)))
        ∙ ap (λ o. length (part t o)) lined.ordered

    one_pending : (u : ℕ) → length (invoked_in u (timeline ++ item)) ≤ length (part u (history_of timeline)) + 1
    one_pending u = elim (cases_eq t u) [
      | inl e ↦ subst (λ v. length (invoked_in v (timeline ++ item)) ≤ length (part v (history_of timeline)) + 1) e
          (omega (arith, ap length own_invoked, length-append (invoked_in t timeline) (k ∷ []), none_pending))
      | inr ne ↦ omega (arith, ap length (other_invoked u ne), (formed_now u).1)
    ]

    pub timeline_grown : IsTimelineOf c (run_grown t k r) (timeline ++ item)
    timeline_grown = record {
      ordered = lined.ordered ∙ same_history;
      invoked = invoked_then;
      others = λ u high. other_invoked u (λ e. omega (arith, tl, high)) ∙ lined.others u high;
      formed = formed_more timeline item lined.formed (λ u. (omega (arith, ap (λ o. length (part u o)) same_history, (formed_now u).0), one_pending u));
    }
