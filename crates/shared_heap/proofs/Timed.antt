-- A thread that is alone ends within its bounds.
use Rattle.std.proofs.Common.{◌≡◌, ℕ, zero, suc, ◌+◌, ◌<◌, ◌≤◌, Bool, true, false, cond, eqb, eq-eqb, ne_eqb, ◌&&◌, refl, arith, subst, sym, ap, ◌∙◌, List, [], ◌∷◌, ◌++◌, length, length-append, get_or, inl, inr, ◌⊎◌}
use Rattle.std.proofs.lemmas.Bool.{cases_Bool}
use Rattle.block_store.specs.declared.Config.{Config}
use Rattle.block_store.specs.Phases.{inside_of, is_closed}
use Rattle.never_heap.specs.declared.Command.{Command}
use Rattle.never_heap.specs.declared.Command.TheVariants as commands
use Rattle.heap_system.specs.Alone.{EndsWithin, HasCommand, IsQuiet, after_alone, command_bound, command_near}
use Rattle.heap_system.specs.Locals.{LocalState, command_of, is_done, is_rest, local_got}
use Rattle.heap_system.specs.Machines.{IsAfterTurns, IsJob, Run, local_in, next}
use Rattle.heap_system.proofs.Lemmas.{Kept, as_long, at_rest, kept_of, laws_of, lone_ends, near_ends, turn_kept}
use Rattle.control_heap.specs.Controls.{IsByEvents}
use Rattle.control_heap.specs.Growth.{given, run_grown}
use Rattle.control_heap.proofs.GrownRuns.{local_grown, next_grown}
use Rattle.shared_heap.specs.declared.rules.ThreadView.{ThreadView}
use Rattle.shared_heap.specs.declared.rules.Moment.{Moment}
use Rattle.shared_heap.specs.Shared.{AllFit, AllTimed, given_past, held, stepped_past, threads_of}
use Rattle.shared_heap.specs.Spans.{EndsBy, HasNoRival, IsAlone, IsBound, IsInTime, IsTimed}
use Rattle.control_heap.proofs.RunGrowth.{given_here, here}
use Rattle.shared_heap.proofs.Quiet.{all_done_quiet}
use Rattle.shared_heap.proofs.Views.{apart_of}

-- an event of a thread that is alone
pub ends_next : (c : Config) (t own b : ℕ) (r : Run) → is_done (local_in c r t) ≡ false → EndsBy c t r own b → EndsBy c t (next c t r) (own + 1) b
ends_next c t own b r going e = by e.turns e.few e.done
  where
    by : (n : ℕ) → own + n ≤ b → is_done (local_in c (after_alone c t r n) t) ≡ true → EndsBy c t (next c t r) (own + 1) b
    by zero few done = (let z : true ≡ false = sym done ∙ going in cc)
    by (suc n) few done = record { turns = n; few = omega (arith, few); done = done }

module _ (c : Config) (r : Run) (n m : ℕ) (h : ThreadView) (w : ℕ) (now : List Moment) (timed : IsTimed c r n h) (at : h.local ≡ local_in c r h.local.thread) (going : is_done h.local ≡ false) (more : m ≡ n + 1) where
  pub timed_next : IsTimed c (next c h.local.thread r) m (held (local_got h.local w) (stepped_past now m h.past))
  timed_next = record {
    own = omega (arith, timed.own, timed.last, more);
    last = omega arith;
    single = λ one.
        (let a = timed.single one in
        record { nobody = a.nobody; opened = a.opened; own = (let e : n ≡ h.past.span.first + h.past.span.own = a.own in omega (arith, e, more)) });
    ends = λ same nobody opened still b is. ends_next c h.local.thread h.past.span.own b r (sym (ap is_done at) ∙ going)
        (timed.ends (omega (arith, same, more)) nobody opened going b is);
  }

  within : IsAlone (stepped_past now m h.past).span → (b : ℕ) → IsBound c h.past.call.command b → h.past.span.own + 1 ≤ b
  within alone b is =
      let e = ends_next c h.local.thread h.past.span.own b r (sym (ap is_done at) ∙ going)
      (timed.ends (let s : m ≡ h.past.span.first + (h.past.span.own + 1) = alone.own in omega (arith, s, more)) alone.nobody alone.opened going b is) in
      omega (arith, e.few)

  alone : HasNoRival c (stepped_past now m h.past).span → IsAlone (stepped_past now m h.past).span
  alone (inl is) = is
  alone (inr one) = timed_next.single one

  pub in_time : h.local.config ≡ c → IsInTime h.local.config h.past.call.command (stepped_past now m h.past).span
  in_time config = subst (λ x. IsInTime x h.past.call.command (stepped_past now m h.past).span) (sym config) (λ lone. record {
    far = λ rate planned. within (alone lone) (command_bound c rate h.past.call.command) (rate, planned, inl refl);
    near = λ rate planned. within (alone lone) (command_near c rate h.past.call.command) (rate, planned, inr refl);
  })

-- a turn of another thread
pub timed_others : (c : Config) (t : ℕ) (r z : Run) (n m : ℕ) (hs : List ThreadView) → t < c.threads → n < m → AllFit c r hs → threads_of t hs ≡ 0 → AllTimed c r n hs → AllTimed c z m hs
timed_others c t r z n m [] tl low fit none all = tt
timed_others c t r z n m (h ∷ hs) tl low fit none all =
    let a = all.0 in (
      record {
        own = a.own;
        last = omega (arith, a.last, low);
        single = λ one. absurd (apart_of t h hs none (omega (arith, one, tl, fit.0.0)));
        ends = λ same nobody opened going b is. absurd (omega (arith, same, a.own, a.last, low));
      },
      timed_others c t r z n m hs tl low fit.1 (omega (arith, none)) all.1,
    )

-- a command of another thread
module _ (c : Config) (t : ℕ) (k : Command) (tl : t < c.threads) (traces : List (List Command)) (job : IsJob c traces) where
  module _ (u : ℕ) (ul : u < c.threads) (apart : u ≡ t → ⊥) where
    same_here : (r : Run) → Kept c traces r → local_in c (run_grown t k r) u ≡ local_in c r u
    same_here r kept =
        local_grown t k c tl r.state u
        ∙ ap (λ b. cond b (given k (local_in c r u)) (local_in c r u)) (ne_eqb (local_in c r u).thread t (λ e. apart (sym (kept.locals u ul).thread ∙ e)))

    ends_grown : (n own b : ℕ) (r : Run) → Kept c traces r → own + n ≤ b → is_done (local_in c r u) ≡ false → is_done (local_in c (after_alone c u r n) u) ≡ true → EndsBy c u (run_grown t k r) own b
    ends_grown zero own b r kept few going done = (let z : true ≡ false = sym done ∙ going in cc)
    ends_grown (suc n) own b r kept few going done =
        let same : next c u (run_grown t k r) ≡ run_grown t k (next c u r) = next_grown t k c tl r u ul (kept.locals u ul).fits going in
        let kept_then : Kept c traces (next c u r) = turn_kept c traces (laws_of c) job r kept u in
        elim (cases_Bool (is_done (local_in c (next c u r) u))) [
          | inl over ↦ record {
            turns = 1;
            few = omega (arith, few);
            done = ap (λ (q : Run). is_done (local_in c q u)) same ∙ ap is_done (same_here (next c u r) kept_then) ∙ over;
          }
          | inr still ↦
              let e = ends_grown n (own + 1) b (next c u r) kept_then (omega (arith, few)) still done in
              record {
                turns = suc e.turns;
                few = omega (arith, e.few);
                done = ap (λ (q : Run). is_done (local_in c (after_alone c u q e.turns) u)) same ∙ e.done;
              }
        ]

  pub timed_grown : (r : Run) (is : IsAfterTurns c r) → Kept c traces r → (n : ℕ) (hs : List ThreadView) → AllFit c r hs → threads_of t hs ≡ 0 → AllTimed c r n hs → AllTimed c (run_grown t k r) n hs
  timed_grown r is kept n [] fit none all = tt
  timed_grown r is kept n (h ∷ hs) fit none all =
      let a = all.0 in
      let ul = fit.0.0 in
      let at : h.local ≡ local_in c r h.local.thread = here c h.local.thread ul r is h.local fit.0.1 in (
        record {
          own = a.own;
          last = a.last;
          single = a.single;
          ends = λ same nobody opened going b bound.
              (let e = a.ends same nobody opened going b bound in
              ends_grown h.local.thread ul (apart_of t h hs none) e.turns h.past.span.own b r kept e.few (sym (ap is_done at) ∙ going) e.done);
        },
        timed_grown r is kept n hs fit.1 (omega (arith, none)) all.1,
      )

-- a thread that is given a command
module _ (c : Config) (t : ℕ) (tl : t < c.threads) (r : Run) (by : IsAfterTurns c r) (k : Command) (l : LocalState) (at : l ≡ local_in c r t) (named : l.thread ≡ t) (done : is_done l ≡ true) (grown_by : IsByEvents c (run_grown t k r)) where
  abbrev later : Run
  later = run_grown t k r

  abbrev traces : List (List Command)
  traces = grown_by.after.traces

  kept : Kept c traces later
  kept = kept_of c later grown_by.after

  kept_alone : (n : ℕ) (q : Run) → Kept c traces q → Kept c traces (after_alone c t q n)
  kept_alone zero q is = is
  kept_alone (suc n) q is = kept_alone n (next c t q) (turn_kept c traces (laws_of c) grown_by.after.job q is t)

  own : given k l ≡ local_in c later t
  own = given_here c t tl r k l at named

  long : length (given k l).trace ≡ length l.log + 1
  long = length-append l.trace (k ∷ []) ∙ omega (arith, as_long l done)

  has : HasCommand (local_in c later t)
  has = subst (λ x. HasCommand x) own (record { rest = at_rest l done; left = omega (arith, long) })

  last_of : (xs : List Command) (n : ℕ) → n ≡ length xs → get_or (xs ++ k ∷ []) n (commands.Nil 0) ≡ k
  last_of [] n e = ap (λ j. get_or (k ∷ []) j (commands.Nil 0)) e
  last_of (x ∷ xs) n e = ap (λ j. get_or (x ∷ xs ++ k ∷ []) j (commands.Nil 0)) e ∙ last_of xs (length xs) refl

  command_is : command_of (local_in c later t) ≡ k
  command_is = ap command_of (sym own) ∙ last_of l.trace (length l.log) (as_long l done)

  both : (a b : Bool) → a ≡ true → b ≡ true → (a && b) ≡ true
  both a b e f = ap (λ x. x && b) e ∙ f

  -- at the end of its command it is done
  ends_of : (b : ℕ) → EndsWithin c t later b → EndsBy c t later 0 b
  ends_of b w =
      let x : LocalState = local_in c (after_alone c t later w.turns) t in
      let trace : x.trace ≡ (given k l).trace = ((kept_alone w.turns later kept).locals t tl).trace ∙ sym (kept.locals t tl).trace ∙ ap (λ (y : LocalState). y.trace) (sym own) in
      let log : length x.log ≡ length l.log + 1 = ap length w.log ∙ length-append (local_in c later t).log (w.entry ∷ []) ∙ ap (λ (y : LocalState). length y.log + 1) (sym own) in
      record {
        turns = w.turns;
        few = omega (arith, w.few);
        done = both (is_rest x.part) (eqb (length x.log) (length x.trace)) w.rest (eq-eqb (length x.log) (length x.trace) (log ∙ sym long ∙ ap length (sym trace)));
      }

  ends_given : IsQuiet c later → (b : ℕ) → IsBound c k b → EndsBy c t later 0 b
  ends_given quiet b is = ends_of b (at_bound is.2)
    where
      at_bound : ((b ≡ command_bound c is.0 k) ⊎ (b ≡ command_near c is.0 k)) → EndsWithin c t later b
      at_bound (inl e) = subst (λ x. EndsWithin c t later x) (sym e) (subst (λ x. EndsWithin c t later (command_bound c is.0 x)) command_is
          (lone_ends c traces grown_by.after.job is.0 is.1 t tl later kept quiet has))
      at_bound (inr e) = subst (λ x. EndsWithin c t later x) (sym e) (subst (λ x. EndsWithin c t later (command_near c is.0 x)) command_is
          (near_ends c traces grown_by.after.job is.0 is.1 t tl later kept quiet has))

  -- it is at rest, so nobody is inside where it is the only thread
  quiet_alone : c.threads ≡ 1 → IsQuiet c r
  quiet_alone one = all_done_quiet c by.traces r (kept_of c r by) (λ u ul.
      let same : t ≡ u = omega (arith, one, tl, ul) in
      subst (λ v. is_done (local_in c r v) ≡ true) same (sym (ap is_done at) ∙ done))

  -- where the step that announced it found this phase word
  pub timed_given : (h : ThreadView) → h.local ≡ l → (phase : ℕ) → phase ≡ get_or r.state.words 0 0 → (now : List Moment) (n : ℕ) (ns : List (List Moment)) → IsTimed c later n (held (given k l) (given_past k phase now n ns h))
  timed_given h is phase read now n ns = record {
    own = omega arith;
    last = omega arith;
    single = λ one.
        (let q = quiet_alone one in
        record { nobody = ap inside_of read ∙ q.nobody; opened = ap is_closed read ∙ q.opened; own = omega arith });
    ends = λ same nobody opened going b bound. subst (λ u. EndsBy c u later 0 b) (sym named) (ends_given (record {
      nobody = sym (ap inside_of read) ∙ nobody;
      opened = sym (ap is_closed read) ∙ opened;
    }) b bound);
  }

-- views that are cut in two or joined
pub timed_append : (c : Config) (r : Run) (n : ℕ) (hs gs : List ThreadView) → AllTimed c r n hs → AllTimed c r n gs → AllTimed c r n (hs ++ gs)
timed_append c r n [] gs f g = g
timed_append c r n (h ∷ hs) gs f g = (f.0, timed_append c r n hs gs f.1 g)
