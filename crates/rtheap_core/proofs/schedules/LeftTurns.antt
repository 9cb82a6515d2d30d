-- A replay makes the turns of its schedule, one by one.
use Rattle.std.proofs.Common.{◌≡◌, ℕ, suc, ◌+◌, ◌-◌, ◌*◌, ◌/◌, ◌%◌, ◌<◌, ◌≤◌, Bool, true, false, not, cond, ltb, lt-ltb, le-ltb, Option, Some, None, IfSome, List, [], ◌∷◌, length, refl, sym, ap, ◌∙◌, subst, arith, inl, inr}
use Rattle.std.proofs.lemmas.Bool.{cases_lt, cases_eq}
use Rattle.std.proofs.lemmas.Nat.{div-add-mod', mod-mul-add, mod_below}
use Rattle.std.proofs.lemmas.List.Sums.{position_or_len_is}
use Rattle.std.specs.List.{position_or_len}
use Rattle.block_store.specs.declared.Config.{Config}
use Rattle.heap_system.specs.Locals.{LocalState, is_done}
use Rattle.heap_system.specs.Machines.{State, local_at, no_local, has_event, turned}
use Rattle.heap_system.specs.Systems.{Ordered, Whole, after_event, ordered_after, AllDone, IsReached}
use Rattle.heap_system.proofs.Lemmas.{left_after, reached_kept}
use Rattle.rtheap_core.specs.declared.schedules.Schedule.{Schedule}
use Rattle.rtheap_core.specs.declared.schedules.Schedule.TheVariants as schedules
use Rattle.rtheap_core.specs.declared.schedules.replaying.Next.{Next}
use Rattle.rtheap_core.specs.declared.schedules.replaying.Next.TheVariants as nexts
use Rattle.rtheap_core.specs.schedules.Schedules.{least_undone, thread_of, turns_on, turns_from}
use Rattle.rtheap_core.specs.schedules.Nexts.{next_at, IsNextBelow, thread_next, after_next}
use Rattle.rtheap_core.specs.schedules.Replays.{system_turned, system_after}
use Rattle.rtheap_core.proofs.schedules.DoneThreads.{no_event_at, still, done_stays}

-- ---- the least thread that is not done

abbrev undone : LocalState → Bool
undone l = not (is_done l)

pub many : (c : Config) (s : State) → IsReached c s → length s.locals ≡ c.threads
many c s k = (reached_kept c s k).threads

pub is_least : (c : Config) (s : State) (t : ℕ) → IsReached c s → t < c.threads → ((u : ℕ) → u < t → is_done (local_at c s u) ≡ true) → is_done (local_at c s t) ≡ false → least_undone s ≡ Some t
is_least c s t k low below here =
    let at : position_or_len undone s.locals ≡ t = position_or_len_is undone s.locals t (no_local c) (omega (arith, low, many c s k)) (λ u ul. ap not (below u ul)) (λ _. ap not here) in
    ap (λ n. cond (ltb n (length s.locals)) (Some n) None) at ∙ ap (λ b. cond b (Some t) None) (lt-ltb t (length s.locals) (omega (arith, low, many c s k)))

pub is_none : (c : Config) (s : State) → IsReached c s → AllDone c s → least_undone s ≡ None
is_none c s k all =
    let at : position_or_len undone s.locals ≡ c.threads = position_or_len_is undone s.locals c.threads (no_local c) (omega (arith, many c s k)) (λ u ul. ap not (all u ul)) (λ low. absurd (omega (arith, low, many c s k))) in
    ap (λ n. cond (ltb n (length s.locals)) (Some n) None) at ∙ ap (λ b. cond b (Some c.threads) None) (le-ltb c.threads (length s.locals) (omega (arith, many c s k)))

-- one more thread is done
pub one_done : (c : Config) (s : State) (t : ℕ) → ((u : ℕ) → u < t → is_done (local_at c s u) ≡ true) → is_done (local_at c s t) ≡ true → (u : ℕ) → u < t + 1 → is_done (local_at c s u) ≡ true
one_done c s t below here u low = elim (cases_eq u t) [
  | inl same ↦ ap (λ k. is_done (local_at c s k)) same ∙ here
  | inr other ↦ below u (omega (arith, low, other))
]

-- ---- what the turns are taken from

next_remainder : (n j : ℕ) → 0 < n → cond (ltb (j % n + 1) n) (j % n + 1) 0 ≡ (j + 1) % n
next_remainder n j some =
    let split : j / n * n + j % n ≡ j = div-add-mod' j n in
    elim (cases_lt (j % n + 1) n) [
      | inl low ↦
          let e : j + 1 ≡ j / n * n + (j % n + 1) = omega (arith, split) in
          rw (lt-ltb (j % n + 1) n low) (sym (ap (λ k. k % n) e ∙ mod-mul-add (j / n) n (j % n + 1) low))
      | inr full ↦
          let e : j + 1 ≡ suc (j / n) * n + 0 = omega (arith, split, full, mod_below j n some) in
          rw (le-ltb (j % n + 1) n full) (sym (ap (λ k. k % n) e ∙ mod-mul-add (suc (j / n)) n 0 some))
    ]

pub next_after : (schedule : Schedule) (n j : ℕ) → 0 < n → after_next n (next_at schedule n j) ≡ next_at schedule n (j + 1)
next_after schedules.Robin n j some = ap nexts.Robin (next_remainder n j some)
next_after schedules.Serial n j some = refl
next_after (schedules.Key key) n j some = let e : suc j ≡ j + 1 = omega arith in ap (λ k. next_at (schedules.Key key) n k) e

pub next_below : (schedule : Schedule) (n j : ℕ) → 0 < n → IsNextBelow n (next_at schedule n j)
next_below schedules.Robin n j some = mod_below j n some
next_below schedules.Serial n j some = tt
next_below (schedules.Key key) n j some = tt

pub thread_is : (schedule : Schedule) (n j least : ℕ) (s : State) → least_undone s ≡ Some least → thread_of schedule n j s ≡ Some (thread_next n least (next_at schedule n j))
thread_is schedules.Robin n j least s is = refl
thread_is schedules.Serial n j least s is = is
thread_is (schedules.Key key) n j least s is = refl

-- ---- the turns that are left

abbrev pub left_turns : Schedule → Whole → ℕ → ℕ → Whole
left_turns schedule w j more = system_after w (turns_from schedule w.config j w.state more)

one_more : (schedule : Schedule) (w : Whole) (j more t : ℕ) → thread_of schedule w.config.threads j w.state ≡ Some t → left_turns schedule w j (suc more) ≡ left_turns schedule (system_turned t w) (j + 1) more
one_more schedule w j more t is = ap (λ o. system_after w (turns_on o (λ u. turns_from schedule w.config (j + 1) (turned w.config u w.state) more))) is

-- a turn goes on
pub goes_on : (schedule : Schedule) (w new last : Whole) (next : Next) (n j turns least t : ℕ) → n ≡ w.config.threads → j < turns → least_undone w.state ≡ Some least → next ≡ next_at schedule n j → t ≡ thread_next n least next
    → new ≡ system_turned t w → left_turns schedule w j (turns - j) ≡ last → left_turns schedule new (j + 1) (turns - (j + 1)) ≡ last
goes_on schedule w new last next n j turns least t is low some at thread after was =
    let one : turns - j ≡ suc (turns - (j + 1)) = omega arith in
    let mine : thread_of schedule w.config.threads j w.state ≡ Some t =
    ap (λ k. thread_of schedule k j w.state) (sym is) ∙ thread_is schedule n j least w.state some ∙ ap Some (sym (thread ∙ ap (thread_next n least) at)) in
    ap (λ v. left_turns schedule v (j + 1) (turns - (j + 1))) after ∙ sym (one_more schedule w j (turns - (j + 1)) t mine) ∙ sym (ap (left_turns schedule w j) one) ∙ was

order_stays : (c : Config) (t : ℕ) (s : State) (o : Option Ordered) → has_event c t s ≡ false → ordered_after c t s o ≡ o
order_stays c t s None none = refl
order_stays c t s (Some o) none = ap (λ b. Some (cond b (after_event c t s o) o)) none

system_stays : (w : Whole) (t : ℕ) → AllDone w.config w.state → system_turned t w ≡ w
system_stays w t all =
    let none = no_event_at w.config w.state t all in
    λ i. record w { state = still w.config w.state t none i; ordered = order_stays w.config t w.state w.ordered none i }

after_stays : (w : Whole) (ts : List ℕ) → AllDone w.config w.state → system_after w ts ≡ w
after_stays w [] all = refl
after_stays w (t ∷ ts) all = ap (λ v. system_after v ts) (system_stays w t all) ∙ after_stays w ts all

-- no thread has an event left
pub stopped : (schedule : Schedule) (w last : Whole) (j more : ℕ) → AllDone w.config w.state → left_turns schedule w j more ≡ last → w ≡ last
stopped schedule w last j more all was = sym (after_stays w (turns_from schedule w.config j w.state more) all) ∙ was

-- or no turn is left
pub ended : (schedule : Schedule) (w last : Whole) (j more : ℕ) → more ≡ 0 → left_turns schedule w j more ≡ last → w ≡ last
ended schedule w last j more none was = sym (ap (left_turns schedule w j) none) ∙ was

-- the threads below the least one that is not done stay done
pub below_stays : (w new : Whole) (t least : ℕ) → new ≡ system_turned t w → ((u : ℕ) → u < least → is_done (local_at w.config w.state u) ≡ true) → (u : ℕ) → u < least → is_done (local_at new.config new.state u) ≡ true
below_stays w new t least after below u low = subst (λ (v : Whole). is_done (local_at v.config v.state u) ≡ true) (sym after) (done_stays w.config w.state t u (below u low))

-- ---- where the order is kept there is room for so many events more

abbrev pub HasRoom : ℕ → Option Ordered → Type 0
HasRoom n o = IfSome o (λ k. n ≤ k.left)

pub room_left : (n m : ℕ) (o : Option Ordered) → n < m → HasRoom m o → IfSome o (λ k. n < k.left)
room_left n m None less room = tt
room_left n m (Some k) less room = omega (arith, less, room)

pub room_stays : (w new : Whole) (t turns j : ℕ) → j < turns → new ≡ system_turned t w → HasRoom (turns - j) w.ordered → HasRoom (turns - (j + 1)) new.ordered
room_stays w new t turns j low after room =
    let less : turns - (j + 1) < turns - j = omega arith in
    subst (λ (v : Whole). HasRoom (turns - (j + 1)) v.ordered) (sym after) (left_after w.config t w.state w.ordered (turns - (j + 1)) (room_left (turns - (j + 1)) (turns - j) w.ordered less room))
