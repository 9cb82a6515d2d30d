-- Views, and which threads are in them.
use Rattle.std.proofs.Common.{◌≡◌, ◌≢◌, ℕ, zero, suc, ◌≤◌, ◌+◌, true, false, cond, eqb, refl, arith, subst, sym, ap, ◌∙◌, append-nil, append_assoc, List, [], ◌∷◌, ◌++◌, get_or, set, map, inl, inr, eq-eqb, ne_eqb, get_or-set_other}
use Rattle.std.proofs.Math.ListN.{get_or-map}
use Rattle.std.proofs.lemmas.Bool.{cases_Bool}
use mathlib.Core.Option.{some, some-injective, some-ne-none}
use lib.ListN.{get_elem?}
use Rattle.block_store.specs.declared.Config.{Config}
use Rattle.block_store.specs.Phases.{bit}
use Rattle.never_heap.specs.declared.Command.{Command}
use Rattle.never_heap.specs.Histories.{HistoryItem, Started, Did}
use Rattle.heap_system.specs.Locals.{LocalState}
use Rattle.heap_system.specs.Machines.{Run}
use Rattle.control_heap.specs.Growth.{given, grown, run_grown}
use Rattle.shared_heap.specs.declared.rules.ThreadView.{ThreadView}
use Rattle.shared_heap.specs.declared.rules.Moment.{Moment}
use Rattle.shared_heap.specs.declared.rules.Moment.TheVariants as moments
use Rattle.shared_heap.specs.declared.rules.View.{View}
use Rattle.shared_heap.specs.Shared.{AllNotedIn, AllSeenIn, IsStartOf, history_of, invoked_in, stamps_in, seen_by, AllFit, AllTimed, threads_of, seats_of, first_in, rest_in}

-- a seat's threads t are at most all
pub seat_part : (t : ℕ) (views : List View) (id : ℕ) (v : View) → get_elem? views id ≡ some v → threads_of t v.threads ≤ seats_of t views
seat_part t [] id v e = absurd (some-ne-none v (sym e))
seat_part t (u ∷ us) zero v e = let s : threads_of t u.threads ≡ threads_of t v.threads = ap (λ (w : View). threads_of t w.threads) (some-injective u v e) in omega arith
seat_part t (u ∷ us) (suc id) v e = omega (arith, seat_part t us id v e)

-- two seats' threads t are at most all
pub seat_parts : (t : ℕ) (views : List View) (i j : ℕ) (v w : View) → get_elem? views i ≡ some v → get_elem? views j ≡ some w → i ≢ j → threads_of t v.threads + threads_of t w.threads ≤ seats_of t views
seat_parts t [] i j v w e f ne = absurd (some-ne-none v (sym e))
seat_parts t (u ∷ us) zero zero v w e f ne = absurd (ne refl)
seat_parts t (u ∷ us) zero (suc j) v w e f ne = let s : threads_of t u.threads ≡ threads_of t v.threads = ap (λ (x : View). threads_of t x.threads) (some-injective u v e) in omega (arith, seat_part t us j w f)
seat_parts t (u ∷ us) (suc i) zero v w e f ne = let s : threads_of t u.threads ≡ threads_of t w.threads = ap (λ (x : View). threads_of t x.threads) (some-injective u w f) in omega (arith, seat_part t us i v e)
seat_parts t (u ∷ us) (suc i) (suc j) v w e f ne = omega (arith, seat_parts t us i j v w e f (λ k. ne (ap suc k)))

-- a sum over the views after one has changed
pub seats_set : (t : ℕ) (views : List View) (id : ℕ) (v w : View) → get_elem? views id ≡ some v → seats_of t (set views id w) + threads_of t v.threads ≡ seats_of t views + threads_of t w.threads
seats_set t [] id v w e = absurd (some-ne-none v (sym e))
seats_set t (u ∷ us) zero v w e = let s : threads_of t u.threads ≡ threads_of t v.threads = ap (λ (x : View). threads_of t x.threads) (some-injective u v e) in omega arith
seats_set t (u ∷ us) (suc id) v w e = omega (arith, seats_set t us id v w e)

pub seats_append : (t : ℕ) (views : List View) (w : View) → seats_of t (views ++ w ∷ []) ≡ seats_of t views + threads_of t w.threads
seats_append t [] w = omega arith
seats_append t (v ∷ views) w = omega (arith, seats_append t views w)

pub threads_append : (t : ℕ) (hs gs : List ThreadView) → threads_of t (hs ++ gs) ≡ threads_of t hs + threads_of t gs
threads_append t [] gs = omega arith
threads_append t (h ∷ hs) gs = omega (arith, threads_append t hs gs)

pub cut_sum : (t : ℕ) (hs : List ThreadView) → threads_of t (rest_in hs) + threads_of t (first_in hs) ≡ threads_of t hs
cut_sum t [] = omega arith
cut_sum t (h ∷ hs) = omega arith

pub fit_append : (c : Config) (r : Run) (hs gs : List ThreadView) → AllFit c r hs → AllFit c r gs → AllFit c r (hs ++ gs)
fit_append c r [] gs f g = g
fit_append c r (h ∷ hs) gs f g = (f.0, fit_append c r hs gs f.1 g)

pub first_fit : (c : Config) (r : Run) (hs : List ThreadView) → AllFit c r hs → AllFit c r (first_in hs)
first_fit c r [] f = tt
first_fit c r (h ∷ hs) f = (f.0, tt)

pub first_timed : (c : Config) (r : Run) (n : ℕ) (hs : List ThreadView) → AllTimed c r n hs → AllTimed c r n (first_in hs)
first_timed c r n [] f = tt
first_timed c r n (h ∷ hs) f = (f.0, tt)

pub rest_timed : (c : Config) (r : Run) (n : ℕ) (hs : List ThreadView) → AllTimed c r n hs → AllTimed c r n (rest_in hs)
rest_timed c r n [] f = tt
rest_timed c r n (h ∷ hs) f = f.1

pub rest_fit : (c : Config) (r : Run) (hs : List ThreadView) → AllFit c r hs → AllFit c r (rest_in hs)
rest_fit c r [] f = tt
rest_fit c r (h ∷ hs) f = f.1

-- ---- prefixes

pub starts_itself : {A : Type 0} (x : List A) → IsStartOf x x
starts_itself x = ([], sym (append-nil x))

pub starts_more : {A : Type 0} (x order items : List A) → IsStartOf x order → IsStartOf x (order ++ items)
starts_more x order items is = (is.0 ++ items, ap (λ o. o ++ items) is.1 ∙ append_assoc x is.0 items)

pub starts_on : {A : Type 0} (x y z : List A) → IsStartOf x y → IsStartOf y z → IsStartOf x z
starts_on x y z f g = (f.0 ++ g.0, g.1 ∙ ap (λ o. o ++ g.0) f.1 ∙ append_assoc x f.0 g.0)

-- each history is that of some timeline
pub moments_of : List HistoryItem → List Moment
moments_of [] = []
moments_of (Started ∷ xs) = moments.Began ∷ moments_of xs
moments_of (Did e ∷ xs) = moments.TookEffect e ∷ moments_of xs

pub history_is : (xs : List HistoryItem) → history_of (moments_of xs) ≡ xs
unfolding moments_of
history_is [] = refl
history_is (Started ∷ xs) = ap (λ o. Started ∷ o) (history_is xs)
history_is (Did e ∷ xs) = ap (λ o. Did e ∷ o) (history_is xs)

-- the items of a history invoke nothing
pub none_invoked : (t : ℕ) (xs : List HistoryItem) → invoked_in t (moments_of xs) ≡ []
unfolding moments_of
none_invoked t [] = refl
none_invoked t (Started ∷ xs) = none_invoked t xs
none_invoked t (Did e ∷ xs) = none_invoked t xs

pub none_stamped : (xs : List HistoryItem) → stamps_in (moments_of xs) ≡ 0
unfolding moments_of
none_stamped [] = refl
none_stamped (Started ∷ xs) = none_stamped xs
none_stamped (Did e ∷ xs) = none_stamped xs

pub noted_more : (timeline items : List Moment) (ns : List (List Moment)) → AllNotedIn timeline ns → AllNotedIn (timeline ++ items) ns
noted_more timeline items [] all = tt
noted_more timeline items (n ∷ ns) all = (starts_more n timeline items all.0, noted_more timeline items ns all.1)

pub noted_append : (timeline : List Moment) (ns ms : List (List Moment)) → AllNotedIn timeline ns → AllNotedIn timeline ms → AllNotedIn timeline (ns ++ ms)
noted_append timeline [] ms all more = more
noted_append timeline (n ∷ ns) ms all more = (all.0, noted_append timeline ns ms all.1 more)

pub seen_more : (timeline items : List Moment) (hs : List ThreadView) → AllSeenIn timeline hs → AllSeenIn (timeline ++ items) hs
seen_more timeline items [] all = tt
seen_more timeline items (h ∷ hs) all = (starts_more h.past.seen timeline items all.0, seen_more timeline items hs all.1)

pub seen_append : (timeline : List Moment) (hs gs : List ThreadView) → AllSeenIn timeline hs → AllSeenIn timeline gs → AllSeenIn timeline (hs ++ gs)
seen_append timeline [] gs f g = g
seen_append timeline (h ∷ hs) gs f g = (f.0, seen_append timeline hs gs f.1 g)

pub first_seen : (timeline : List Moment) (hs : List ThreadView) → AllSeenIn timeline hs → AllSeenIn timeline (first_in hs)
first_seen timeline [] f = tt
first_seen timeline (h ∷ hs) f = (f.0, tt)

pub rest_seen : (timeline : List Moment) (hs : List ThreadView) → AllSeenIn timeline hs → AllSeenIn timeline (rest_in hs)
rest_seen timeline [] f = tt
rest_seen timeline (h ∷ hs) f = f.1

pub seen_noted : (timeline : List Moment) (hs : List ThreadView) → AllSeenIn timeline hs → AllNotedIn timeline (map seen_by hs)
seen_noted timeline [] all = tt
seen_noted timeline (h ∷ hs) all = (all.0, seen_noted timeline hs all.1)

-- ---- what a step of another thread leaves unchanged

-- the thread h is not t
pub apart_of : (t : ℕ) (h : ThreadView) (hs : List ThreadView) → threads_of t (h ∷ hs) ≡ 0 → h.local.thread ≡ t → ⊥
apart_of t h hs none e =
    let apart : eqb t h.local.thread ≡ false = elim (cases_Bool (eqb t h.local.thread)) [ inl is ↦ absurd (let b : bit (eqb t h.local.thread) ≡ 1 = ap bit is in omega (arith, none)) | inr is ↦ is ] in
    let b : true ≡ false = sym (eq-eqb t h.local.thread (sym e)) ∙ apart in cc

-- a turn of t leaves the other threads as they are
pub others_fit : (c : Config) (r z : Run) (t : ℕ) (l : LocalState) → z.state.locals ≡ set r.state.locals t l → (hs : List ThreadView) → threads_of t hs ≡ 0 → AllFit c r hs → AllFit c z hs
others_fit c r z t l locals [] none fit = tt
others_fit c r z t l locals (h ∷ hs) none fit =
    let f = fit.0 in (
      (
        f.0,
        f.1 ∙ sym (get_or-set_other r.state.locals t h.local.thread l h.local (apart_of t h hs none)) ∙ ap (λ ls. get_or ls h.local.thread h.local) (sym locals),
      ),
      others_fit c r z t l locals hs (omega (arith, none)) fit.1,
    )

-- so does a command of t
module _ (t : ℕ) (k : Command) where
  pub grown_at : (ls : List LocalState) (u : ℕ) (l m : LocalState) → m ≡ grown t k l → l ≡ get_or ls u l → m ≡ get_or (map (grown t k) ls) u m
  grown_at ls u l m is here = is ∙ ap (grown t k) here ∙ sym (get_or-map (grown t k) ls u l) ∙ ap (get_or (map (grown t k) ls) u) (sym is)

  pub others_same : (c : Config) (r : Run) (hs : List ThreadView) → threads_of t hs ≡ 0 → AllFit c r hs → AllFit c (run_grown t k r) hs
  others_same c r [] none fit = tt
  others_same c r (h ∷ hs) none fit =
      let f = fit.0 in
      let same : h.local ≡ grown t k h.local = sym (ap (λ b. cond b (given k h.local) h.local) (ne_eqb h.local.thread t (apart_of t h hs none))) in
      ((f.0, grown_at r.state.locals h.local.thread h.local h.local same f.1), others_same c r hs (omega (arith, none)) fit.1)
