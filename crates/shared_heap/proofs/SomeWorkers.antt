-- A heap that is closed with some of its workers has one history.
use Rattle.std.proofs.Common.{◌≡◌, ℕ, zero, suc, ◌+◌, ◌<◌, ◌≤◌, true, eqb, eq-eqb, refl, arith, subst, sym, ap, ◌∙◌, List, [], ◌∷◌, ◌++◌, length, get_or, map}
use mathlib.Core.Option.{some}
use lib.ListN.{get_elem?}
use Rattle.atomic_table.specs.Table as table
use Rattle.block_store.specs.declared.Config.{Config}
use Rattle.block_store.specs.Phases.{bit, cycle_of}
use Rattle.never_heap.specs.declared.Command.{Command}
use Rattle.never_heap.specs.declared.Entry.{Entry}
use Rattle.never_heap.specs.Histories.{part, replay, starts_in}
use Rattle.heap_system.specs.Locals.{LocalState, is_done}
use Rattle.heap_system.specs.Machines.{Run, IsAfterTurns, local_in}
use Rattle.heap_system.specs.Systems.{Whole}
use Rattle.heap_system.proofs.Lemmas.{Kept, at_rest, first_commands, kept_of, laws_of, licensed, never_full, right_work, tallies_of}
use Rattle.shared_heap.specs.declared.rules.ThreadView.{ThreadView}
use Rattle.shared_heap.specs.declared.rules.View.{View}
use Rattle.shared_heap.specs.Shared.{Fits, IsStartOf, SharedKept, first_past, held, history_of, invoked_in, threads_of}
use Rattle.shared_heap.specs.Workers.{WorkerState, AreOfWorkers, HasFirstCommands, HasPart, HaveHistoryOfSome, IsOfWorker, WasClosedWith}
use Rattle.shared_heap.proofs.AllWorkers.{of_at, of_long}
use Rattle.shared_heap.proofs.Endings.{fit_at, seen_at}
use Rattle.shared_heap.proofs.AnnouncedCommands.{phase_is}
use Rattle.control_heap.proofs.RunGrowth.{here}
use Rattle.shared_heap.proofs.ThreadFacts.{said_when_done, told_at_rest}
use Rattle.shared_heap.proofs.Timelines.{history_start, keeps_real_time}
use Rattle.shared_heap.proofs.Views.{seat_part}

-- a thread that is one of these
one_there : (t : ℕ) (hs : List ThreadView) (j : ℕ) (e : ThreadView) → j < length hs → (get_or hs j e).local.thread ≡ t → 1 ≤ threads_of t hs
one_there t [] j e low is = absurd (omega arith)
one_there t (h ∷ hs) zero e low is = let b : bit (eqb t h.local.thread) ≡ 1 = rw (eq-eqb t h.local.thread (sym is)) refl in omega (arith, b)
one_there t (h ∷ hs) (suc j) e low is = omega (arith, one_there t hs j e (omega arith) is)

-- and one that is there twice
two_there : (t : ℕ) (hs : List ThreadView) (i j : ℕ) (e f : ThreadView) → i < j → j < length hs → (get_or hs i e).local.thread ≡ t → (get_or hs j f).local.thread ≡ t → 2 ≤ threads_of t hs
two_there t [] i j e f less low is again = absurd (omega arith)
two_there t (h ∷ hs) zero zero e f less low is again = absurd (omega arith)
two_there t (h ∷ hs) zero (suc j) e f less low is again =
    let b : bit (eqb t h.local.thread) ≡ 1 = rw (eq-eqb t h.local.thread (sym is)) refl in
    omega (arith, b, one_there t hs j f (omega arith) again)
two_there t (h ∷ hs) (suc i) zero e f less low is again = absurd (omega arith)
two_there t (h ∷ hs) (suc i) (suc j) e f less low is again = omega (arith, two_there t hs i j e f (omega arith) (omega arith) is again)

module _ (k : Whole) (s : table.State Command View) (kept : SharedKept k s) (id : ℕ) (v : View) (at : get_elem? s.views id ≡ some v) (ws : List WorkerState) (mine : AreOfWorkers ws v.threads) where
  abbrev c : Config
  c = k.config

  abbrev r : Run
  r = kept.run

  abbrev after : IsAfterTurns c r
  after = kept.by.after

  all : Kept c after.traces r
  all = kept_of c r after

  firsts : (t : ℕ) → t < c.threads → HasFirstCommands kept.timeline r.order t
  firsts t tl =
      let own = all.locals t tl in
      let first = first_commands (replay c r.order) (local_in c r t) (part t r.order) own.told own.fits own.said in
      (first.0, kept.timeline_of.invoked t tl ∙ first.1)

  module _ (j : ℕ) (d : WorkerState) (low : j < length ws) where
    abbrev w : WorkerState
    w = get_or ws j d

    -- a default
    abbrev e : ThreadView
    e = held d.thread (first_past d.thread)

    there : j < length v.threads
    there = omega (arith, low, of_long ws v.threads mine)

    abbrev own : ThreadView
    own = get_or v.threads j e

    its : IsOfWorker w own
    its = of_at ws v.threads j d e mine low

    fit : Fits c r own
    fit = fit_at c r v.threads j e (kept.each id v at).0 there

    abbrev t : ℕ
    t = own.local.thread

    is : own.local ≡ local_in c r t
    is = here c t fit.0 r after own.local fit.1

    over : is_done (local_in c r t) ≡ true
    over = ap is_done (sym is) ∙ its.2

    log : part t r.order ≡ (local_in c r t).log
    log = told_at_rest c t fit.0 r after (at_rest (local_in c r t) over)

    seen : IsStartOf own.past.seen kept.timeline
    seen = seen_at kept.timeline v.threads j e (kept.each id v at).3 there

    named : w.thread.thread ≡ t
    named = ap (λ (l : LocalState). l.thread) its.0

    has_part : HasPart kept.timeline r.order t w
    has_part = record {
      thread = named;
      told = ap (λ (l : LocalState). l.log) its.0 ∙ ap (λ (l : LocalState). l.log) is ∙ sym log;
      asked = ap (map (λ (e : Entry). e.command)) log ∙ said_when_done c t fit.0 r after over ∙ sym (ap (λ (l : LocalState). l.trace) is) ∙ sym (ap (λ (l : LocalState). l.trace) its.0);
      invoked = kept.timeline_of.invoked t fit.0 ∙ sym (ap (λ (l : LocalState). l.trace) is) ∙ sym (ap (λ (l : LocalState). l.trace) its.0);
      on_timeline = subst (λ x. IsStartOf x kept.timeline) (sym its.3) seen;
      seen = subst (λ x. IsStartOf x r.order) (sym its.1) (subst (λ o. IsStartOf (history_of own.past.seen) o) (sym kept.timeline_of.ordered) (history_start own.past.seen kept.timeline seen));
    }

    some_part : HasPart kept.timeline r.order w.thread.thread w
    some_part = subst (λ u. HasPart kept.timeline r.order u w) (sym named) has_part

    some_thread : w.thread ≡ local_in c r w.thread.thread
    some_thread = its.0 ∙ is ∙ ap (local_in c r) (sym named)

  -- no thread is that of two workers
  apart : (i j : ℕ) (d : WorkerState) → i < j → j < length ws → (get_or ws i d).thread.thread ≡ (get_or ws j d).thread.thread → ⊥
  apart i j d less low same =
      let il : i < length ws = omega (arith, less, low) in
      let u : ℕ = t j d low in
      let two = two_there u v.threads i j (e i d il) (e j d low) less (there j d low) (sym (named i d il) ∙ same ∙ named j d low) refl in
      omega (arith, two, seat_part u s.views id v at, kept.once u (fit j d low).0)

  module _ (h : Config) (same : h ≡ k.config) (cycles : ℕ) (read : cycles ≡ cycle_of (get_or s.words 0 0)) where
    pub history_of_some : HaveHistoryOfSome h ws cycles
    history_of_some = subst (λ x. HaveHistoryOfSome x ws cycles) (sym same) (record {
      timeline = kept.timeline;
      order = r.order;
      legal = all.names.ordered.legal;
      licensed = licensed c after.traces (laws_of c) (tallies_of c) after.job after.turns r after.by_turns after.by_turns.opening.rate after.by_turns.opening.planned;
      never = never_full c after.traces (laws_of c) (tallies_of c) after.job after.turns r after.by_turns after.by_turns.opening.rate after.by_turns.opening.planned;
      right = λ rate planned. right_work c after.traces r all rate planned;
      parts = λ j d low. some_part j d low;
      distinct = λ i j d less low same. apart i j d less low same;
      first_commands = firsts;
      others = all.foreign;
      ordered = kept.timeline_of.ordered;
      no_others = kept.timeline_of.others;
      formed = kept.timeline_of.formed;
      real_time = keeps_real_time kept.timeline r.order kept.timeline_of.ordered kept.timeline_of.formed;
      starts = read ∙ ap cycle_of (phase_is k s kept) ∙ sym all.names.ordered.started;
      run = r;
      by = kept.by;
      of_run = refl;
      threads = λ j d low. some_thread j d low;
    })

pub closes_some : (c : Config) (ws : List WorkerState) (cycles : ℕ) → WasClosedWith c ws cycles → HaveHistoryOfSome c ws cycles
closes_some c ws cycles was = history_of_some was.whole was.last was.kept was.id was.view was.seat ws was.own c was.config cycles was.read
