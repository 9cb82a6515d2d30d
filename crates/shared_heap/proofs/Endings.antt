-- A seat that has all threads, each of them done, knows that there is one history.
use Rattle.std.proofs.Common.{◌≡◌, ℕ, zero, suc, ◌-◌, ◌*◌, ◌<◌, ◌≤◌, true, refl, arith, subst, sym, ap, ◌∙◌, List, [], ◌∷◌, length, get_or, map}
use mathlib.Core.Option.{some}
use lib.ListN.{get_elem?}
use Rattle.atomic_table.specs.Table as table
use Rattle.block_store.specs.declared.Config.{Config}
use Rattle.block_store.specs.Phases.{cycle_of}
use Rattle.never_heap.specs.declared.Command.{Command}
use Rattle.never_heap.specs.declared.Entry.{Entry}
use Rattle.never_heap.specs.Histories.{part, starts_in, work_in}
use Rattle.heap_system.specs.Locals.{LocalState, is_done}
use Rattle.heap_system.specs.Costs.{units_so_far}
use Rattle.heap_system.specs.Machines.{Run, IsAfterTurns, local_in}
use Rattle.heap_system.specs.Systems.{AllDone, Whole}
use Rattle.heap_system.proofs.Lemmas.{Kept, at_rest, kept_of, laws_of, least, licensed, most, never_full, right_work, tallies_of}
use Rattle.heap_system.proofs.accounting.RunBounds.{all_done}
use Rattle.atom_board.proofs.Endings.{first_word}
use Rattle.shared_heap.specs.declared.rules.ThreadView.{ThreadView}
use Rattle.shared_heap.specs.declared.rules.View.{View}
use Rattle.shared_heap.specs.declared.rules.Moment.{Moment}
use Rattle.shared_heap.specs.Shared.{Fits, AllFit, AllSeenIn, SharedKept, IsStartOf, first_past, held, history_of}
use Rattle.shared_heap.specs.Workers.{HeapState, WorkerState, AreInOrder, AreOfWorkers, AreSome, IsOfWorker, KnowsAll, HasPart, HaveOneHistory, IsOfMachine, WasClosedWith}
use Rattle.shared_heap.proofs.AllWorkers.{of_at, of_long}
use Rattle.shared_heap.proofs.AnnouncedCommands.{phase_is}
use Rattle.control_heap.proofs.RunGrowth.{here}
use Rattle.shared_heap.proofs.WorkersInOrder.{nobody}
use Rattle.shared_heap.proofs.ThreadFacts.{said_when_done, told_at_rest}
use Rattle.shared_heap.proofs.Timelines.{history_start, keeps_real_time}

pub fit_at : (c : Config) (r : Run) (hs : List ThreadView) (i : ℕ) (d : ThreadView) → AllFit c r hs → i < length hs → Fits c r (get_or hs i d)
fit_at c r [] i d fit low = absurd (omega arith)
fit_at c r (h ∷ hs) zero d fit low = fit.0
fit_at c r (h ∷ hs) (suc i) d fit low = fit_at c r hs i d fit.1 (omega arith)

pub seen_at : (timeline : List Moment) (hs : List ThreadView) (i : ℕ) (d : ThreadView) → AllSeenIn timeline hs → i < length hs → IsStartOf (get_or hs i d).past.seen timeline
seen_at timeline [] i d seen low = absurd (omega arith)
seen_at timeline (h ∷ hs) zero d seen low = seen.0
seen_at timeline (h ∷ hs) (suc i) d seen low = seen_at timeline hs i d seen.1 (omega arith)

module _ (k : Whole) (s : table.State Command View) (kept : SharedKept k s) (id : ℕ) (v : View) (at : get_elem? s.views id ≡ some v) (h : HeapState) (ws : List WorkerState) (named : h.config ≡ k.config) (order : AreInOrder h ws) (mine : AreOfWorkers ws v.threads) where
  abbrev c : Config
  c = k.config

  abbrev r : Run
  r = kept.run

  all : Kept c kept.by.after.traces r
  all = kept_of c r kept.by.after

  count : length ws ≡ c.threads
  count = order.count ∙ ap (λ (x : Config). x.threads) named

  module _ (t : ℕ) (tl : t < c.threads) (d : WorkerState) where
    below : t < length ws
    below = omega (arith, tl, count)

    there : t < length v.threads
    there = omega (arith, below, of_long ws v.threads mine)

    abbrev w : WorkerState
    w = get_or ws t d

    -- a default
    abbrev e : ThreadView
    e = held d.thread (first_past d.thread)

    abbrev own : ThreadView
    own = get_or v.threads t e

    its : IsOfWorker w own
    its = of_at ws v.threads t d e mine below

    fit : Fits c r own
    fit = fit_at c r v.threads t e (kept.each id v at).0 there

    number : own.local.thread ≡ t
    number = ap (λ (l : LocalState). l.thread) (sym its.0) ∙ (order.each t d below).1

    is : own.local ≡ local_in c r t
    is = here c t tl r kept.by.after own.local (subst (λ u. own.local ≡ get_or r.state.locals u own.local) number fit.1)

    over : is_done (local_in c r t) ≡ true
    over = ap is_done (sym is) ∙ its.2

    log : part t r.order ≡ (local_in c r t).log
    log = told_at_rest c t tl r kept.by.after (at_rest (local_in c r t) over)

    its_seen : IsStartOf own.past.seen kept.timeline
    its_seen = seen_at kept.timeline v.threads t e (kept.each id v at).3 there

    pub its_part : HasPart kept.timeline r.order t w
    its_part = record {
      thread = ap (λ (l : LocalState). l.thread) its.0 ∙ number;
      told = ap (λ (l : LocalState). l.log) its.0 ∙ ap (λ (l : LocalState). l.log) is ∙ sym log;
      asked = ap (map (λ (e : Entry). e.command)) log ∙ said_when_done c t tl r kept.by.after over ∙ sym (ap (λ (l : LocalState). l.trace) is) ∙ sym (ap (λ (l : LocalState). l.trace) its.0);
      invoked = kept.timeline_of.invoked t tl ∙ sym (ap (λ (l : LocalState). l.trace) is) ∙ sym (ap (λ (l : LocalState). l.trace) its.0);
      on_timeline = subst (λ x. IsStartOf x kept.timeline) (sym its.3) its_seen;
      seen = subst (λ x. IsStartOf x r.order) (sym its.1) (subst (λ o. IsStartOf (history_of own.past.seen) o) (sym kept.timeline_of.ordered) (history_start own.past.seen kept.timeline its_seen));
    }

    pub its_thread : w.thread ≡ local_in c r t
    its_thread = its.0 ∙ is

  abbrev after : IsAfterTurns c r
  after = kept.by.after

  finished : AllDone c r.state
  finished = λ t tl. over t tl nobody

  machine : IsOfMachine c ws r.order
  machine = record {
    run = r;
    by = kept.by;
    ordered = refl;
    done = finished;
    threads = λ t tl. (t, omega (arith, tl, count), λ d. its_thread t tl d);
  }

  -- the units of the turns are the works of the order
  units : units_so_far c r ≡ work_in r.order
  units = all_done c after.traces (laws_of c) (tallies_of c) after.job after.turns r after.by_turns after.by_turns.opening.rate after.by_turns.opening.planned finished

  few : (cycles : ℕ) → cycles ≡ starts_in r.order → (cycles - 1) * c.blocks ≤ work_in r.order
  few cycles started =
      subst (λ n. (n - 1) * c.blocks ≤ work_in r.order) (sym started)
      (subst (λ u. (starts_in r.order - 1) * c.blocks ≤ u) units (least c after.traces (laws_of c) (tallies_of c) after.job after.turns r after.by_turns after.by_turns.opening.rate after.by_turns.opening.planned))

  many : (cycles : ℕ) → cycles ≡ starts_in r.order → work_in r.order ≤ 2 * c.blocks * cycles
  many cycles started =
      subst (λ n. work_in r.order ≤ 2 * c.blocks * n) (sym started)
      (subst (λ u. u ≤ 2 * c.blocks * starts_in r.order) units (most c after.traces (laws_of c) (tallies_of c) after.job after.turns r after.by_turns after.by_turns.opening.rate after.by_turns.opening.planned))

  pub one_history : (cycles : ℕ) → cycles ≡ cycle_of (get_or s.words 0 0) → HaveOneHistory h.config ws cycles
  one_history cycles read =
      let started : cycles ≡ starts_in r.order = read ∙ ap cycle_of (phase_is k s kept) ∙ sym all.names.ordered.started in
      subst (λ x. HaveOneHistory x ws cycles) (sym named) (record {
        timeline = kept.timeline;
        order = r.order;
        legal = all.names.ordered.legal;
        licensed = licensed c after.traces (laws_of c) (tallies_of c) after.job after.turns r after.by_turns after.by_turns.opening.rate after.by_turns.opening.planned;
        never = never_full c after.traces (laws_of c) (tallies_of c) after.job after.turns r after.by_turns after.by_turns.opening.rate after.by_turns.opening.planned;
        right = λ rate planned. right_work c after.traces r all rate planned;
        parts = λ t tl. (t, omega (arith, tl, count), λ d. its_part t tl d);
        others = all.foreign;
        ordered = kept.timeline_of.ordered;
        no_others = kept.timeline_of.others;
        formed = kept.timeline_of.formed;
        real_time = keeps_real_time kept.timeline r.order kept.timeline_of.ordered kept.timeline_of.formed;
        starts = started;
        least_units = few cycles started;
        most_units = many cycles started;
        machine = machine;
      })

pub cycle_is : (s : table.State Command View) (ws : List ℕ) (w : ℕ) → s.words ≡ ws → get_elem? ws 0 ≡ some w → cycle_of (get_or s.words 0 0) ≡ cycle_of w
cycle_is s ws w same at = ap (λ x. cycle_of (get_or x 0 0)) same ∙ ap cycle_of (first_word ws w at)

-- what is known of a table that was closed with the seat of these workers
pub was_closed : (c : Config) (k : Whole) (s : table.State Command View) (id : ℕ) (me : table.Me Command View) (who ws : List WorkerState) (cycles : ℕ) → SharedKept k s → get_elem? s.views id ≡ some me.0 → KnowsAll me ws → ws ≡ who → c ≡ k.config → cycles ≡ cycle_of (get_or s.words 0 0) → WasClosedWith c who cycles
was_closed c k s id me who ws cycles kept at knows same named read = record {
  whole = k;
  last = s;
  kept = kept;
  config = named;
  id = id;
  view = record { threads = knows.threads; notes = knows.notes };
  seat = at ∙ ap (λ (m : table.Me Command View). some m.0) knows.knows;
  own = subst (λ xs. AreOfWorkers xs knows.threads) same knows.all;
  read = read;
}

-- with all workers in order
pub closes : (h : HeapState) (who : List WorkerState) (cycles : ℕ) → WasClosedWith h.config who cycles → AreInOrder h who → HaveOneHistory h.config who cycles
closes h who cycles was order = one_history was.whole was.last was.kept was.id was.view was.seat h who was.config order was.own cycles was.read

-- all workers in order, as some of them
pub some_in_order : (h : HeapState) (who : List WorkerState) → 0 < length who → AreInOrder h who → AreSome h who
some_in_order h who any order = (any, λ i d low. (order.each i d low).0)
