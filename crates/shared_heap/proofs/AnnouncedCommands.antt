-- A step that changes no word may append a command to the trace of the seat's thread.
use Rattle.std.proofs.Common.{◌≡◌, ℕ, true, cond, eqb, eqb-true, refl, arith, subst, sym, ap, ◌∙◌, List, [], ◌∷◌, ◌++◌, get_or, length, set, inl, inr, ⊎_elim, eq-eqb}
use Rattle.std.proofs.lemmas.List.{set-get_or}
use Rattle.std.proofs.lemmas.Bool.{cases_Bool}
use mathlib.Core.Option.{some, some-injective}
use lib.ListN.{get_elem?}
use prog.Atomic.{either}
use Rattle.atomic_table.specs.Table as table
use Rattle.atomic_table.proofs.Lists.{at_set}
use Rattle.block_store.specs.declared.Config.{Config}
use Rattle.block_store.specs.Phases.{bit}
use Rattle.never_heap.specs.declared.Command.{Command}
use Rattle.never_heap.specs.Bounds.{IsCommandInBounds}
use Rattle.heap_system.specs.Locals.{LocalState, is_done}
use Rattle.heap_system.specs.Machines.{Run, local_in}
use Rattle.heap_system.specs.Systems.{Whole}
use Rattle.heap_system.proofs.Lemmas.{Kept, kept_of}
use Rattle.control_heap.specs.Controls.{IsByEvents}
use Rattle.control_heap.specs.Growth.{given, run_grown}
use Rattle.control_heap.proofs.GrownJobs.{HasRoomFor}
use Rattle.shared_heap.specs.declared.rules.ThreadView.{ThreadView}
use Rattle.shared_heap.specs.declared.rules.Moment.{Moment}
use Rattle.shared_heap.specs.declared.rules.Moment.TheVariants as moments
use Rattle.shared_heap.specs.declared.rules.SeenHistory.{SeenHistory}
use Rattle.shared_heap.specs.declared.rules.View.{View}
use Rattle.shared_heap.specs.Shared.{Fits, AllFit, AllNotedIn, AllSeenIn, AllTimed, SharedKept, Gives, IsOfRun, IsStartOf, IsTimelineOf, held, one_view, given_past, gives_on}
use Rattle.shared_heap.proofs.Views.{seat_parts, seats_set, grown_at, noted_more, others_same, seen_more, starts_itself}
use Rattle.shared_heap.proofs.Timed.{timed_given, timed_grown}
use Rattle.shared_heap.proofs.Words.{get_front}
use Rattle.shared_heap.proofs.Timelines.{counts_same, timeline_grown}
use Rattle.control_heap.proofs.RunGrowth.{events_grown, events_grown_long, given_here, here}

-- a compare-exchange of 0 with 0 changes no word
same_word : (w : ℕ) → either (eqb w 0) 0 w ≡ w
same_word w = elim (cases_Bool (eqb w 0)) [
  | inl is ↦ rw is (sym (eqb-true w 0 is))
  | inr is ↦ rw is refl
]

-- the phase word is the run's
pub phase_is : (k : Whole) (s : table.State Command View) (kept : SharedKept k s) → get_or s.words 0 0 ≡ get_or kept.run.state.words 0 0
phase_is k s kept = ap (λ ws. get_or ws 0 0) kept.words ∙ get_front kept.run.state.words (kept.drawn ∷ []) 0 0 (omega (arith, (kept_of k.config kept.run kept.by.after).long))

module _ (k : Whole) (s : table.State Command View) (kept : SharedKept k s) (id : ℕ) (h : ThreadView) (ns : List (List Moment)) (at : get_elem? s.views id ≡ some (one_view h ns)) (m : Command) (bounds : IsCommandInBounds h.local.config m) (room : HasRoomFor h.local.config h.local.thread m h.local.trace) (done : is_done h.local ≡ true) where
  abbrev c : Config
  c = k.config

  abbrev r : Run
  r = kept.run

  abbrev l : LocalState
  l = h.local

  abbrev t : ℕ
  t = l.thread

  pub f : Fits c r h
  f = (kept.each id (one_view h ns) at).0.0

  noted : AllNotedIn kept.timeline ns
  noted = (kept.each id (one_view h ns) at).1

  seen : IsStartOf h.past.seen kept.timeline
  seen = (kept.each id (one_view h ns) at).3.0

  pub is : l ≡ local_in c r t
  is = here c t f.0 r kept.by.after l f.1

  all : Kept c kept.by.after.traces r
  all = kept_of c r kept.by.after

  config : l.config ≡ c
  config = ap (λ (x : LocalState). x.config) is ∙ (all.locals t f.0).config

  trace : l.trace ≡ get_or kept.by.after.traces t []
  trace = ap (λ (x : LocalState). x.trace) is ∙ (all.locals t f.0).trace

  pub fits : IsCommandInBounds c m
  fits = subst (λ x. IsCommandInBounds x m) config bounds

  pub has_room : HasRoomFor c t m (get_or kept.by.after.traces t [])
  has_room = subst (λ x. HasRoomFor c t m x) trace (subst (λ x. HasRoomFor x t m l.trace) config room)

  abbrev pub grown_by : IsByEvents c (run_grown t m r)
  grown_by = events_grown c t f.0 r kept.by m fits has_room

  same_long : length grown_by.after.turns ≡ length kept.by.after.turns
  same_long = events_grown_long c t f.0 r kept.by m fits has_room

  -- the timeline before the command is invoked, and with its invocation
  abbrev now : List Moment
  now = kept.timeline

  abbrev then_line : List Moment
  then_line = now ++ moments.Invoked t m ∷ []

  lined : IsTimelineOf c (run_grown t m r) then_line
  lined = timeline_grown c t f.0 r kept.by.after now kept.timeline_of m (ap is_done (sym is) ∙ done)

  -- what the seat knows then, where the step found this phase word
  abbrev pub past : ℕ → SeenHistory
  past phase = given_past m phase now (length grown_by.after.turns) ns h

  fit : (phase : ℕ) → Fits c (run_grown t m r) (held (given m l) (past phase))
  fit phase = (
    f.0,
    grown_at t m r.state.locals t l (given m l) (sym (ap (λ b. cond b (given m l) l) (eq-eqb t t refl))) f.1,
  )

  of_run : (phase : ℕ) → IsOfRun l.config (past phase) (given m l)
  of_run phase = subst (λ x. IsOfRun x (past phase) (given m l)) (sym config) (record {
    run = run_grown t m r;
    after = grown_by.after;
    there = f.0;
    local = given_here c t f.0 r m l is refl;
    timeline_of = lined;
    counted = refl;
  })

  abbrev pub then_view : ℕ → View
  then_view phase = one_view (held (given m l) (past phase)) []

  pub gift_keeps : (phase : ℕ) → phase ≡ get_or s.words 0 0 → SharedKept k (record { words = s.words; homes = s.homes; views = set s.views id (then_view phase) })
  gift_keeps phase read = record {
    run = run_grown t m r;
    by = grown_by;
    drawn = kept.drawn;
    words = kept.words;
    timeline = then_line;
    counts = counts_same kept.drawn now (moments.Invoked t m ∷ []) refl kept.counts;
    timeline_of = lined;
    each = λ j u e. ⊎_elim
        (λ p. subst (λ (x : View). AllFit c (run_grown t m r) x.threads × AllNotedIn then_line x.notes × AllTimed c (run_grown t m r) (length grown_by.after.turns) x.threads × AllSeenIn then_line x.threads) p.1 ((fit phase, tt), tt, (timed_given c t f.0 r kept.by.after m l is refl done grown_by h refl phase (read ∙ phase_is k s kept) now (length grown_by.after.turns) ns, tt), (starts_itself then_line, tt)))
        (λ p.
        let both = seat_parts t s.views id j (one_view h ns) u at p.1 (λ q. p.0 (sym q)) in
        let one = kept.once t f.0 in
        let is_one : bit (eqb t t) ≡ 1 = rw (eq-eqb t t refl) refl in
        (others_same t m c r u.threads (omega (arith, both, one, is_one)) (kept.each j u p.1).0, noted_more now (moments.Invoked t m ∷ []) u.notes (kept.each j u p.1).1, subst (λ n. AllTimed c (run_grown t m r) n u.threads) (sym same_long) (timed_grown c t m f.0 kept.by.after.traces kept.by.after.job r kept.by.after all (length kept.by.after.turns) u.threads (kept.each j u p.1).0 (omega (arith, both, one, is_one)) (kept.each j u p.1).2), seen_more now (moments.Invoked t m ∷ []) u.threads (kept.each j u p.1).3))
        (at_set s.views id j (then_view phase) u e);
    once = λ u ul. omega (arith, seats_set u s.views id (one_view h ns) (then_view phase) at, kept.once u ul);
  }

  pub gift_tells : (phase : ℕ) → gives_on (some m) phase (one_view h ns, []) (then_view phase, [])
  gift_tells phase n said =
      let e : m ≡ n = some-injective m n said in
      subst (λ x. Gives x phase (one_view h ns, []) (then_view phase, [])) e (record {
        now = now;
        turns = length grown_by.after.turns;
        moved = refl;
        told = (of_run phase, tt);
        seen = (seen, tt);
        noted = noted;
      })

-- in every state of the table a step at the phase word may announce a command for the seat's thread
pub gift_allowed : (k : Whole) (id : ℕ) (h : ThreadView) (ns : List (List Moment)) (m : Command) → IsCommandInBounds h.local.config m → HasRoomFor h.local.config h.local.thread m h.local.trace → is_done h.local ≡ true
    → table.Allows (SharedKept k) 0 id (one_view h ns, []) 0 (λ n. either (eqb n 0) 0 n) (λ found. gives_on (some m) found (one_view h ns, []))
gift_allowed k id h ns m bounds room done s kept homes at low =
    let phase : ℕ = get_or s.words 0 0 in
    let word : set s.words 0 (either (eqb (get_or s.words 0 0) 0) 0 (get_or s.words 0 0)) ≡ s.words = ap (set s.words 0) (same_word (get_or s.words 0 0)) ∙ set-get_or s.words 0 0 in (
      then_view k s kept id h ns at m bounds room done phase,
      table.keeps,
      tt,
      subst (λ ws. SharedKept k (record { words = ws; homes = s.homes; views = set s.views id (then_view k s kept id h ns at m bounds room done phase) })) (sym word) (gift_keeps k s kept id h ns at m bounds room done phase refl),
      gift_tells k s kept id h ns at m bounds room done phase,
    )

pub gift_here : (k : Whole) (slots id : ℕ) (h : ThreadView) (ns : List (List Moment)) (me : table.Me Command View) (m : Command) → slots ≡ 0 → me ≡ (one_view h ns, []) → IsCommandInBounds h.local.config m → HasRoomFor h.local.config h.local.thread m h.local.trace → is_done h.local ≡ true
    → table.Allows (SharedKept k) slots id me 0 (λ n. either (eqb n 0) 0 n) (λ found. gives_on (some m) found me)
gift_here k slots id h ns me m none knows bounds room done =
    subst (λ x. table.Allows (SharedKept k) x id me 0 (λ n. either (eqb n 0) 0 n) (λ found. gives_on (some m) found me)) (sym none)
    (subst (λ x. table.Allows (SharedKept k) 0 id x 0 (λ n. either (eqb n 0) 0 n) (λ found. gives_on (some m) found x)) (sym knows) (gift_allowed k id h ns m bounds room done))
