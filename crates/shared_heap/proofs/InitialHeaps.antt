-- The rule holds at the start, where the first seat has all threads, and none has a command.
use Rattle.std.proofs.Common.{◌≡◌, ℕ, zero, suc, ◌≤◌, ◌<◌, ◌+◌, eqb, true, false, refl, arith, subst, sym, ap, ◌∙◌, List, [], ◌∷◌, ◌++◌, length, length-append, append_assoc, get_or, map, eq-eqb, ne_eqb, inl, inr}
use Rattle.std.proofs.lemmas.Bool.{cases_eq}
use Rattle.std.specs.List.{AllByRecursion}
use mathlib.Core.Option.{some, some-injective, some-ne-none}
use lib.ListN.{get_elem?}
use Rattle.atomic_table.specs.Table as table
use Rattle.block_store.specs.declared.Config.{Config}
use Rattle.block_store.specs.Phases.{bit, inside_of, is_closed}
use Rattle.never_heap.specs.declared.Command.{Command}
use Rattle.never_heap.specs.declared.Command.TheVariants as commands
use Rattle.never_heap.specs.Bounds.{IsCommandInBounds}
use Rattle.heap_system.specs.Lives.{IsLife}
use Rattle.heap_system.specs.Locals.{LocalState, at_start}
use Rattle.heap_system.specs.Machines.{Run, State, starts_from, opened, IsJob, IsOpening, local_in}
use Rattle.heap_system.specs.Systems.{Whole}
use Rattle.heap_system.proofs.Lemmas.{here, start_at, start_count}
use Rattle.control_heap.specs.Controls.{IsByEvents}
use Rattle.atom_board.proofs.InitialHeaps.{at_length}
use Rattle.shared_heap.specs.declared.rules.ThreadView.{ThreadView}
use Rattle.shared_heap.specs.declared.rules.Moment.TheVariants as moments
use Rattle.shared_heap.specs.declared.rules.View.{View}
use Rattle.shared_heap.specs.Shared.{AllFit, AllNotedIn, AllSeenIn, AllTimed, SharedKept, IsOfRun, IsTimelineOf, threads_of, first_held, first_past, first_view, held, no_span, unasked}
use Rattle.shared_heap.specs.Spans.{IsAlone}
use Rattle.shared_heap.specs.Workers.{AreOnes, CanOpen, IsDealt}
use Rattle.shared_heap.proofs.Timelines.{invoked_start, part_start}
use Rattle.shared_heap.proofs.Views.{starts_itself}

-- nothing for each of these
abbrev pub nothings : List (List Command) → List (List Command)
nothings [] = []
nothings (x ∷ xs) = [] ∷ nothings xs

pub nothings_long : (xs : List (List Command)) → length (nothings xs) ≡ length xs
nothings_long [] = refl
nothings_long (x ∷ xs) = ap suc (nothings_long xs)

pub nothing_at : (xs : List (List Command)) (i : ℕ) → get_or (nothings xs) i [] ≡ []
nothing_at [] i = refl
nothing_at (x ∷ xs) zero = refl
nothing_at (x ∷ xs) (suc i) = nothing_at xs i

no_life : (c : Config) (rate : ℕ) → IsLife c []
no_life c rate = record { asked = record { few = omega arith; commands = tt }; units = λ p is. omega arith; objects = omega arith }

no_lives : (c : Config) (xs : List (List Command)) → AllByRecursion (IsLife c) (nothings xs)
no_lives c [] = tt
no_lives c (x ∷ xs) = (no_life c 0, no_lives c xs)

pub idle_job : (c : Config) (traces : List (List Command)) → IsJob c traces → IsJob c (nothings traces)
idle_job c traces job = record {
  bounds = record {
    config = job.bounds.config;
    threads = nothings_long traces ∙ job.bounds.threads;
    each = no_lives c traces;
  };
  plan = job.plan;
}

pub unasked_starts : (c : Config) (rate : ℕ) (space : ℕ → ℕ) (t : ℕ) (traces : List (List Command)) → map unasked (starts_from c rate space t traces) ≡ starts_from c rate space t (nothings traces)
unasked_starts c rate space t [] = refl
unasked_starts c rate space t (x ∷ xs) = ap (λ ls. at_start c rate (space t) t [] ∷ ls) (unasked_starts c rate space (t + 1) xs)

-- a thread that has seen the start of cycle 1
abbrev opening_held : LocalState → ThreadView
opening_held l = held l (first_past l)

firsts_are : (ls : List LocalState) → map first_held ls ≡ map opening_held (map unasked ls)
firsts_are [] = refl
firsts_are (l ∷ ls) = ap (λ hs. first_held l ∷ hs) (firsts_are ls)

-- the threads after the first t of them
starts_fit : (c : Config) (rate : ℕ) (space : ℕ → ℕ) (r : Run) (t : ℕ) (before : List LocalState) (traces : List (List Command)) → r.state.locals ≡ before ++ starts_from c rate space t traces → length before ≡ t → t + length traces ≤ c.threads
    → AllFit c r (map opening_held (starts_from c rate space t traces))
starts_fit c rate space r t before [] are at low = tt
starts_fit c rate space r t before (trace ∷ traces) are at low =
    let l : LocalState = at_start c rate (space t) t trace in
    let here : l ≡ get_or (before ++ l ∷ starts_from c rate space (t + 1) traces) t l = subst (λ n. l ≡ get_or (before ++ l ∷ starts_from c rate space (t + 1) traces) n l) at (at_length before (starts_from c rate space (t + 1) traces) l l) in
    let longer : length (before ++ l ∷ []) ≡ t + 1 = length-append before (l ∷ []) ∙ omega (arith, at) in (
      (omega (arith, low), here ∙ ap (λ ls. get_or ls t l) (sym are)),
      starts_fit c rate space r (t + 1) (before ++ l ∷ []) traces (are ∙ sym (append_assoc before (l ∷ []) (starts_from c rate space (t + 1) traces))) longer (omega (arith, low)),
    )

-- each has seen the start of cycle 1
firsts_seen : (ls : List LocalState) → AllSeenIn (moments.Began ∷ []) (map first_held ls)
firsts_seen [] = tt
firsts_seen (l ∷ ls) = (starts_itself (moments.Began ∷ []), firsts_seen ls)

-- none has had a turn
none_yet : IsAlone no_span
unfolding inside_of is_closed
none_yet = record { nobody = refl; opened = refl; own = refl }

starts_timed : (c : Config) (rate : ℕ) (space : ℕ → ℕ) (r : Run) (t : ℕ) (traces : List (List Command)) → AllTimed c r 0 (map opening_held (starts_from c rate space t (nothings traces)))
starts_timed c rate space r t [] = tt
starts_timed c rate space r t (trace ∷ traces) = (
  record {
    own = omega arith;
    last = omega arith;
    single = λ one. none_yet;
    ends = λ same nobody opened going b is. (let z : true ≡ false = going in cc);
  },
  starts_timed c rate space r (t + 1) traces,
)

-- each of them once
none_below : (c : Config) (rate : ℕ) (space : ℕ → ℕ) (t u : ℕ) (traces : List (List Command)) → u < t → threads_of u (map opening_held (starts_from c rate space t traces)) ≡ 0
none_below c rate space t u [] low = refl
none_below c rate space t u (trace ∷ traces) low =
    let apart : bit (eqb u t) ≡ 0 = rw (ne_eqb u t (λ e. omega arith)) refl in
    omega (arith, none_below c rate space (t + 1) u traces (omega arith))

one_within : (c : Config) (rate : ℕ) (space : ℕ → ℕ) (t u : ℕ) (traces : List (List Command)) → t ≤ u → u < t + length traces → threads_of u (map opening_held (starts_from c rate space t traces)) ≡ 1
one_within c rate space t u [] low high = absurd (omega arith)
one_within c rate space t u (trace ∷ traces) low high = elim (cases_eq u t) [
  | inl e ↦
      let here : bit (eqb u t) ≡ 1 = rw (eq-eqb u t e) refl in
      omega (arith, none_below c rate space (t + 1) u traces (omega arith))
  | inr n ↦
      let apart : bit (eqb u t) ≡ 0 = rw (ne_eqb u t n) refl in
      omega (arith, one_within c rate space (t + 1) u traces (omega arith) (omega arith))
]

module _ (c : Config) (traces : List (List Command)) (job : IsJob c traces) (s : State) (start : IsOpening c traces s) where
  -- the state in which no thread has a command
  abbrev pub idle : State
  idle = record { words = s.words; locals = map unasked s.locals }

  abbrev pub idle_opening : IsOpening c (nothings traces) idle
  idle_opening = record {
    rate = start.rate;
    planned = start.planned;
    count = start.count;
    words = start.words;
    space = start.space;
    roomy = start.roomy;
    locals = ap (map unasked) start.locals ∙ unasked_starts c start.rate start.space 0 traces;
  }

  abbrev pub idle_run : IsByEvents c (opened c idle)
  idle_run = record {
    after = record {
      traces = nothings traces;
      job = idle_job c traces job;
      turns = [];
      by_turns = record { first = idle; opening = idle_opening; turns = refl };
    };
    events = tt;
  }

  held_are : map first_held s.locals ≡ map opening_held (starts_from c start.rate start.space 0 (nothings traces))
  held_are = firsts_are s.locals ∙ ap (map opening_held) idle_opening.locals

  pub all_fit : AllFit c (opened c idle) (map first_held s.locals)
  all_fit = subst (λ xs. AllFit c (opened c idle) xs) (sym held_are) (starts_fit c start.rate start.space (opened c idle) 0 [] (nothings traces) idle_opening.locals refl (omega (arith, (idle_job c traces job).bounds.threads)))

  pub all_timed : AllTimed c (opened c idle) 0 (map first_held s.locals)
  all_timed = subst (λ xs. AllTimed c (opened c idle) 0 xs) (sym held_are) (starts_timed c start.rate start.space (opened c idle) 0 traces)

  pub each_once : (t : ℕ) → t < c.threads → threads_of t (map first_held s.locals) ≡ 1
  each_once t tl = ap (threads_of t) held_are ∙ one_within c start.rate start.space 0 t (nothings traces) (omega arith) (omega (arith, tl, (idle_job c traces job).bounds.threads))

  pub idle_at : (i : ℕ) → i < c.threads → local_in c (opened c idle) i ≡ at_start c start.rate (start.space i) i []
  idle_at i low = here c (nothings traces) (idle_job c traces job) idle idle_opening i low ∙ ap (at_start c start.rate (start.space i) i) (nothing_at traces i)

  -- nothing has been invoked
  pub idle_timeline : IsTimelineOf c (opened c idle) (moments.Began ∷ [])
  idle_timeline = record {
    ordered = refl;
    invoked = λ t tl. sym (ap (λ (l : LocalState). l.trace) (idle_at t tl));
    others = λ u high. refl;
    formed = λ p is t. (omega (arith, part_start t p (moments.Began ∷ []) is), omega (arith, invoked_start t p (moments.Began ∷ []) is));
  }

pub opens : (k : Whole) (traces : List (List Command)) → IsJob k.config traces → IsOpening k.config traces k.state → SharedKept k (table.opening (k.state.words ++ 0 ∷ []) [] (first_view k))
opens k traces job start =
    let c = k.config in
    record {
      run = opened c (idle c traces job k.state start);
      by = idle_run c traces job k.state start;
      drawn = 0;
      words = refl;
      timeline = moments.Began ∷ [];
      counts = inl refl;
      timeline_of = idle_timeline c traces job k.state start;
      each = each (opened c (idle c traces job k.state start)) (all_fit c traces job k.state start) (all_timed c traces job k.state start);
      once = λ t tl. omega (arith, each_once c traces job k.state start t tl);
    }
  where
    each : (r : Run) → AllFit k.config r (map first_held k.state.locals) → AllTimed k.config r 0 (map first_held k.state.locals) → (id : ℕ) (v : View) → get_elem? (first_view k ∷ []) id ≡ some v → AllFit k.config r v.threads × AllNotedIn (moments.Began ∷ []) v.notes × AllTimed k.config r 0 v.threads × AllSeenIn (moments.Began ∷ []) v.threads
    each r fit timed zero v e = subst (λ (x : View). AllFit k.config r x.threads × AllNotedIn (moments.Began ∷ []) x.notes × AllTimed k.config r 0 x.threads × AllSeenIn (moments.Began ∷ []) x.threads) (some-injective (first_view k) v e) (fit, tt, timed, firsts_seen k.state.locals)
    each r fit timed (suc id) v e = absurd (some-ne-none v (sym e))

pub opens_of : (k : Whole) (c : Config) (traces : List (List Command)) (ws : List ℕ) → k.config ≡ c → IsJob c traces → IsOpening c traces k.state → ws ≡ k.state.words ++ 0 ∷ [] → SharedKept k (table.opening ws [] (first_view k))
opens_of k c traces ws same job start is =
    subst (λ x. SharedKept k (table.opening x [] (first_view k))) (sym is) (opens k traces (subst (λ x. IsJob x traces) (sym same) job) (subst (λ x. IsOpening x traces k.state) (sym same) start))

pub one_at : (xs : List (List Command)) (i : ℕ) → AreOnes xs → i < length xs → length (get_or xs i []) ≡ 1
one_at [] i are low = absurd (omega arith)
one_at (x ∷ xs) zero are low = ap length are.0
one_at (x ∷ xs) (suc i) are low = one_at xs i are.1 (omega arith)

pub ones_more : (xs : List (List Command)) (x : List Command) → AreOnes xs → x ≡ commands.Nil 0 ∷ [] → AreOnes (xs ++ x ∷ [])
ones_more [] x are is = (is, tt)
ones_more (y ∷ xs) x are is = (are.0, ones_more xs x are.1 is)

one_life : (c : Config) (x : List Command) → x ≡ commands.Nil 0 ∷ [] → IsLife c x
one_life c x is = subst (λ y. IsLife c y) (sym is) (record {
  asked = record { few = omega arith; commands = (first, tt) };
  units = λ p planned. omega arith;
  objects = omega arith;
})
  where
    first : IsCommandInBounds c (commands.Nil 0)
    first = record { range = omega arith; blocks = omega arith; units = omega arith; version = tt }

one_lives : (c : Config) (xs : List (List Command)) → AreOnes xs → AllByRecursion (IsLife c) xs
one_lives c [] are = tt
one_lives c (x ∷ xs) are = (one_life c x are.0, one_lives c xs are.1)

pub first_job : (c : Config) (xs : List (List Command)) → CanOpen c → length xs ≡ c.threads → AreOnes xs → IsJob c xs
first_job c xs can long are = record {
  bounds = record { config = can.bounds; threads = long; each = one_lives c xs are };
  plan = can.plan;
}

-- the threads as the workers start with them
module _ (c : Config) (traces : List (List Command)) (job : IsJob c traces) (s : State) (start : IsOpening c traces s) (ones : AreOnes traces) where
  start_of_run : (i : ℕ) (l : LocalState) → i < c.threads → IsOfRun c (first_past l) (at_start c start.rate (start.space i) i [])
  start_of_run i l low = record {
    run = opened c (idle c traces job s start);
    after = (idle_run c traces job s start).after;
    there = low;
    timeline_of = idle_timeline c traces job s start;
    counted = refl;
    local = sym (idle_at c traces job s start i low);
  }

  pub dealt_at : (ws : ℕ) → ws ≡ length (s.words ++ 0 ∷ []) → (i : ℕ) (d : LocalState) → i < length s.locals → IsDealt ws (get_or s.locals i d)
  dealt_at ws count i d low =
      let il : i < c.threads = omega (arith, start_count c traces job s start, low) in
      subst (λ l. IsDealt ws l) (sym (start_at c traces job s start i d low)) (record {
        told = start_of_run i (at_start c start.rate (start.space i) i (get_or traces i [])) il;
        rest = refl;
        before = refl;
        log = refl;
        one = one_at traces i ones (omega (arith, job.bounds.threads, il));
        words = omega (arith, count, length-append s.words (0 ∷ []), start.count);
      })

  pub config_at : (i : ℕ) (d : LocalState) → i < length s.locals → (get_or s.locals i d).config ≡ c
  config_at i d low = ap (λ (l : LocalState). l.config) (start_at c traces job s start i d low)

  pub thread_at : (i : ℕ) (d : LocalState) → i < length s.locals → (get_or s.locals i d).thread ≡ i
  thread_at i d low = ap (λ (l : LocalState). l.thread) (start_at c traces job s start i d low)
