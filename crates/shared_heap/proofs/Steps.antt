-- An event of a seat's thread keeps the rule, and so do a split and a join of seats.
use Rattle.std.proofs.Common.{◌≡◌, ℕ, ◌<◌, ◌+◌, ◌^◌, true, false, cond, eqb, refl, arith, subst, sym, ap, ◌∙◌, List, [], ◌∷◌, ◌++◌, length, get_or, set, ⊎_elim, eq-eqb, get_or-set_same}
use mathlib.Core.Option.{some}
use lib.ListN.{get_elem?}
use Rattle.atomic_table.specs.Table as table
use Rattle.atomic_table.proofs.Lists.{at_set, at_snoc}
use Rattle.atom_board.specs.Boards.{written}
use Rattle.atom_board.proofs.Steps.{one_write}
use Rattle.block_store.specs.declared.Config.{Config}
use Rattle.block_store.specs.Phases.{bit}
use Rattle.block_store.specs.Places.{extent, words_count}
use Rattle.heap_machine.specs.declared.op.Op.{Op}
use Rattle.heap_machine.specs.Operations.{op_at, op_place, words_after, SumFits}
use Rattle.never_heap.specs.declared.Command.{Command}
use Rattle.heap_system.specs.Locals.{LocalState, LocalReads, is_done, local_got, op_wanted, part_want}
use Rattle.heap_system.specs.Machines.{State, Run, decided, event_done, has_event, local_in, next, no_local, turned, word_read}
use Rattle.heap_system.specs.Systems.{Whole}
use Rattle.heap_system.proofs.Lemmas.{Kept, kept_of, laws_of, local_reads, sums}
use Rattle.control_heap.specs.Controls.{IsByEvents}
use Rattle.shared_heap.specs.declared.rules.ThreadView.{ThreadView}
use Rattle.shared_heap.specs.declared.rules.Moment.{Moment}
use Rattle.shared_heap.specs.declared.rules.SeenHistory.{SeenHistory}
use Rattle.shared_heap.specs.declared.rules.View.{View}
use Rattle.shared_heap.specs.Shared.{Fits, AllFit, AllNotedIn, AllSeenIn, AllTimed, SharedKept, StepsOn, IsOfRun, IsStartOf, IsTimelineOf, threads_of, held, no_view, one_view, first_of, rest_of, joined, noted_of, same_view, found_by, stepped_past}
use Rattle.shared_heap.specs.Spans.{IsTimed}
use Rattle.shared_heap.proofs.Timed.{in_time, timed_append, timed_next, timed_others}
use Rattle.shared_heap.proofs.Views.{first_timed, rest_timed, seat_parts, seats_set, seats_append, threads_append, cut_sum, fit_append, first_fit, rest_fit, others_fit, moments_of, none_stamped, noted_append, noted_more, first_seen, rest_seen, seen_append, seen_more, seen_noted, starts_itself, starts_more}
use Rattle.shared_heap.proofs.Timelines.{counts_same, timeline_next}
use Rattle.shared_heap.proofs.Words.{get_front, set_front}
use Rattle.control_heap.proofs.RunGrowth.{events_more, events_more_long, events_more_traces, goes, here}

-- what one event of thread t is, of this run
module _ (c : Config) (t : ℕ) (tl : t < c.threads) (r : Run) (by : IsByEvents c r) (l : LocalState) (at : l ≡ local_in c r t) (going : is_done l ≡ false) where
  kept : Kept c by.after.traces r
  kept = kept_of c r by.after

  pub config : l.config ≡ c
  config = ap (λ (x : LocalState). x.config) at ∙ (kept.locals t tl).config

  abbrev pub w : ℕ
  w = get_or r.state.words (op_place (op_wanted l)) 0

  op_is : op_at (extent c) (part_want c (local_in c r t).part) ≡ op_wanted l
  op_is = ap (λ (x : LocalState). op_at (extent c) (part_want c x.part)) (sym at) ∙ ap (λ (x : Config). op_at (extent x) (part_want x l.part)) (sym config)

  word_is : word_read c r.state (local_in c r t) ≡ w
  word_is = ap (λ o. get_or r.state.words (op_place o) 0) op_is

  pub reads : LocalReads l.config l w
  reads =
      let first : LocalReads c (local_in c r t) (word_read c r.state (local_in c r t)) = local_reads c by.after.traces by.after.job by.after.turns r by.after.by_turns t tl in
      subst (λ x. LocalReads x l w) (sym config) (subst (λ x. LocalReads c x w) (sym at) (subst (λ x. LocalReads c (local_in c r t) x) word_is first))

  pub fits : SumFits (op_wanted l) w
  fits =
      let first = sums c by.after.traces (laws_of c) by.after.job.bounds.config by.after.job.plan r kept t tl in
      subst (λ o. SumFits o (get_or r.state.words (op_place o) 0)) op_is first

  event : has_event c t r.state ≡ true
  event = goes c t tl r l at going

  state_is : turned c t r.state ≡ event_done c t r.state
  state_is = ap (λ b. cond b (event_done c t r.state) r.state) event

  pub words_are : (next c t r).state.words ≡ words_after (op_wanted l) r.state.words
  words_are = ap (λ (s : State). s.words) state_is ∙ ap (λ o. words_after o r.state.words) op_is

  pub locals_are : (next c t r).state.locals ≡ set r.state.locals t (local_got l w)
  locals_are = ap (λ (s : State). s.locals) state_is ∙ (λ i. set r.state.locals t (local_got (sym at i) (word_is i)))

  pub long : t < length r.state.locals
  long = omega (arith, tl, kept.threads)

  pub moved : local_got l w ≡ local_in c (next c t r) t
  moved = sym (get_or-set_same r.state.locals t (local_got l w) (no_local c) long) ∙ ap (λ ls. get_or ls t (no_local c)) (sym locals_are)

-- an event of a seat's thread
module _ (k : Whole) (s : table.State Command View) (kept : SharedKept k s) (id : ℕ) (h : ThreadView) (ns : List (List Moment)) (at : get_elem? s.views id ≡ some (one_view h ns)) (going : is_done h.local ≡ false) (within : op_place (op_wanted h.local) < words_count (extent h.local.config)) (low : found_by h.local s < 2 ^ 64) where
  abbrev c : Config
  c = k.config

  abbrev r : Run
  r = kept.run

  abbrev l : LocalState
  l = h.local

  abbrev t : ℕ
  t = l.thread

  pub f : Fits c r h
  f = (kept.each id (one_view h ns) at).0.0

  noted : AllNotedIn kept.timeline ns
  noted = (kept.each id (one_view h ns) at).1

  seen : IsStartOf h.past.seen kept.timeline
  seen = (kept.each id (one_view h ns) at).3.0

  timed : IsTimed c r (length kept.by.after.turns) h
  timed = (kept.each id (one_view h ns) at).2.0

  pub is : l ≡ local_in c r t
  is = here c t f.0 r kept.by.after l f.1

  abbrev new : LocalState
  new = local_got l (found_by l s)

  abbrev place : ℕ
  place = op_place (op_wanted l)

  inside : place < length r.state.words
  inside = omega (arith, within, ap (λ (x : Config). words_count (extent x)) (config c t f.0 r kept.by l is going), (kept_of c r kept.by.after).long)

  -- the word that is read is the run's
  same : found_by l s ≡ get_or r.state.words (op_place (op_wanted l)) 0
  same = ap (λ ws. get_or ws place 0) kept.words ∙ get_front r.state.words (kept.drawn ∷ []) place 0 inside

  abbrev later : Run
  later = next c t r

  locals : later.state.locals ≡ set r.state.locals t new
  locals = locals_are c t f.0 r kept.by l is going ∙ ap (λ x. set r.state.locals t (local_got l x)) (sym same)

  there : t < length r.state.locals
  there = long c t f.0 r kept.by l is going

  words : set s.words (op_place (op_wanted l)) (written (op_wanted l) (found_by l s)) ≡ later.state.words ++ kept.drawn ∷ []
  words =
      ap (λ ws. set ws place (written (op_wanted l) (found_by l s))) kept.words
      ∙ set_front r.state.words (kept.drawn ∷ []) place (written (op_wanted l) (found_by l s)) inside
      ∙ ap (λ x. set r.state.words place (written (op_wanted l) x) ++ kept.drawn ∷ []) same
      ∙ ap (λ ws. ws ++ kept.drawn ∷ []) (sym (one_write (op_wanted l) r.state.words (fits c t f.0 r kept.by l is going) (subst (λ x. x < 2 ^ 64) same low)) ∙ sym (words_are c t f.0 r kept.by l is going))

  abbrev pub of_events : IsByEvents c later
  of_events = events_more c t f.0 r kept.by (goes c t f.0 r l is going)

  one_more : length of_events.after.turns ≡ length kept.by.after.turns + 1
  one_more = events_more_long c t f.0 r kept.by (goes c t f.0 r l is going)

  abbrev items : List Moment
  items = moments_of (decided c t r.state r.order)

  -- the timeline then, all of which the seat has seen
  abbrev pub now : List Moment
  now = kept.timeline ++ items

  lined : IsTimelineOf c later now
  lined = timeline_next c t f.0 r kept.by.after kept.timeline kept.timeline_of of_events.after (events_more_traces c t f.0 r kept.by (goes c t f.0 r l is going))

  -- what the seat knows then
  abbrev pub past : SeenHistory
  past = stepped_past now (length of_events.after.turns) h.past

  fit : Fits c later (held new past)
  fit = (
    f.0,
    subst (λ ls. new ≡ get_or ls t new) (sym locals) (sym (get_or-set_same r.state.locals t new new there)),
  )

  of_run : IsOfRun l.config past new
  of_run = subst (λ x. IsOfRun x past new) (sym (config c t f.0 r kept.by l is going)) (record {
    run = later;
    after = of_events.after;
    there = f.0;
    local = ap (local_got l) same ∙ moved c t f.0 r kept.by l is going;
    timeline_of = lined;
    counted = refl;
  })

  abbrev pub then_view : View
  then_view = one_view (held new past) ns

  pub turn_keeps : SharedKept k (table.stepped s (op_place (op_wanted l)) (written (op_wanted l) (found_by l s)) id [] then_view table.keeps)
  turn_keeps = record {
    run = later;
    by = of_events;
    drawn = kept.drawn;
    words = words;
    timeline = now;
    counts = counts_same kept.drawn kept.timeline items (none_stamped (decided c t r.state r.order)) kept.counts;
    timeline_of = lined;
    each = λ j u e. ⊎_elim
        (λ p. subst (λ (x : View). AllFit c later x.threads × AllNotedIn now x.notes × AllTimed c later (length of_events.after.turns) x.threads × AllSeenIn now x.threads) p.1 ((fit, tt), noted_more kept.timeline items ns noted, (timed_next c r (length kept.by.after.turns) (length of_events.after.turns) h (found_by l s) now timed is going one_more, tt), (starts_itself now, tt)))
        (λ p.
        let both = seat_parts t s.views id j (one_view h ns) u at p.1 (λ q. p.0 (sym q)) in
        let one = kept.once t f.0 in
        let is_one : bit (eqb t t) ≡ 1 = rw (eq-eqb t t refl) refl in
        (others_fit c r later t new locals u.threads (omega (arith, both, one, is_one)) (kept.each j u p.1).0, noted_more kept.timeline items u.notes (kept.each j u p.1).1, timed_others c t r later (length kept.by.after.turns) (length of_events.after.turns) u.threads f.0 (omega (arith, one_more)) (kept.each j u p.1).0 (omega (arith, both, one, is_one)) (kept.each j u p.1).2, seen_more kept.timeline items u.threads (kept.each j u p.1).3))
        (at_set s.views id j then_view u e);
    once = λ u ul. omega (arith, seats_set u s.views id (one_view h ns) then_view at, kept.once u ul);
  }

  pub turn_tells : StepsOn (one_view h ns, []) (found_by l s) (then_view, [])
  turn_tells = record {
    now = now;
    turns = length of_events.after.turns;
    moved = refl;
    reads = (subst (λ x. LocalReads l.config l x) (sym same) (reads c t f.0 r kept.by l is going), tt);
    told = (of_run, tt);
    few = (in_time c r (length kept.by.after.turns) (length of_events.after.turns) h (found_by l s) now timed is going one_more (config c t f.0 r kept.by l is going), tt);
    seen = (starts_more h.past.seen kept.timeline items seen, tt);
  }

-- in every state of the table a seat with one thread makes its event
pub allowed : (k : Whole) (id : ℕ) (h : ThreadView) (ns : List (List Moment)) → is_done h.local ≡ false → op_place (op_wanted h.local) < words_count (extent h.local.config) → table.Allows (SharedKept k) 0 id (one_view h ns, []) (op_place (op_wanted h.local)) (written (op_wanted h.local)) (StepsOn (one_view h ns, []))
allowed k id h ns going within s kept homes at low = (
  then_view k s kept id h ns at going within low,
  table.keeps,
  tt,
  turn_keeps k s kept id h ns at going within low,
  turn_tells k s kept id h ns at going within low,
)

-- the same, for the operation that the thread wants
pub op_allowed : (k : Whole) (slots id : ℕ) (h : ThreadView) (ns : List (List Moment)) (me : table.Me Command View) (op : Op) → is_done h.local ≡ false → slots ≡ 0 → me ≡ (one_view h ns, []) → op ≡ op_wanted h.local → op_place op < words_count (extent h.local.config) → table.Allows (SharedKept k) slots id me (op_place op) (written op) (StepsOn me)
op_allowed k slots id h ns me op going none knows wants within =
    subst (λ x. table.Allows (SharedKept k) x id me (op_place op) (written op) (StepsOn me)) (sym none)
    (subst (λ x. table.Allows (SharedKept k) 0 id x (op_place op) (written op) (StepsOn x)) (sym knows)
    (subst (λ x. table.Allows (SharedKept k) 0 id (one_view h ns, []) (op_place x) (written x) (StepsOn (one_view h ns, []))) (sym wants) (allowed k id h ns going (subst (λ o. op_place o < words_count (extent h.local.config)) wants within))))

-- a seat keeps some threads and notes of its view, and a new one gets some
module _ (k : Whole) (s : table.State Command View) (kept : SharedKept k s) (id : ℕ) (v left right : View) (at : get_elem? s.views id ≡ some v) where
  abbrev Fine : View → Type 0
  Fine x = AllFit k.config kept.run x.threads × AllNotedIn kept.timeline x.notes × AllTimed k.config kept.run (length kept.by.after.turns) x.threads × AllSeenIn kept.timeline x.threads

  pub parts_keep : Fine left → Fine right → ((t : ℕ) → threads_of t left.threads + threads_of t right.threads ≡ threads_of t v.threads)
      → SharedKept k (record { words = s.words; homes = s.homes; views = set s.views id left ++ right ∷ [] })
  parts_keep one other sum = record {
    run = kept.run;
    by = kept.by;
    drawn = kept.drawn;
    words = kept.words;
    timeline = kept.timeline;
    counts = kept.counts;
    timeline_of = kept.timeline_of;
    each = λ j u e. ⊎_elim
        (λ old. ⊎_elim
        (λ p. subst Fine p.1 one)
        (λ p. kept.each j u p.1)
        (at_set s.views id j left u old))
        (λ new. subst Fine new other)
        (at_snoc (set s.views id left) right u j e);
    once = λ t tl. omega (arith, seats_append t (set s.views id left) right, seats_set t s.views id v left at, sum t, kept.once t tl);
  }

-- the first thread moves to a new seat
pub splits : (k : Whole) (id : ℕ) (v : View) → table.Splits (SharedKept k) id v (rest_of v) (first_of v)
splits k id v s kept at =
    let all = kept.each id v at in
    parts_keep k s kept id v (rest_of v) (first_of v) at (rest_fit k.config kept.run v.threads all.0, all.1, rest_timed k.config kept.run (length kept.by.after.turns) v.threads all.2, rest_seen kept.timeline v.threads all.3) (first_fit k.config kept.run v.threads all.0, tt, first_timed k.config kept.run (length kept.by.after.turns) v.threads all.2, first_seen kept.timeline v.threads all.3) (λ t. cut_sum t v.threads)

-- a new seat notes what the threads have seen
pub notes : (k : Whole) (id : ℕ) (v : View) → table.Splits (SharedKept k) id v (same_view v) (noted_of v)
notes k id v s kept at =
    let all = kept.each id v at in
    parts_keep k s kept id v v (noted_of v) at all (tt, seen_noted kept.timeline v.threads all.3, tt, tt) (λ t. omega arith)

-- a seat takes over the threads and the notes of another
pub joins : (k : Whole) (id : ℕ) (v : View) (other : ℕ) (w : View) → table.Joins (SharedKept k) id v other w (joined v w) no_view
joins k id v other w s kept at ne that =
    let there : get_elem? s.views other ≡ some w = ⊎_elim (λ p. absurd (ne p.0)) (λ p. p.1) (at_set s.views id other (joined v w) w that) in
    let mine = kept.each id v at in
    let theirs = kept.each other w there in
    record {
      run = kept.run;
      by = kept.by;
      drawn = kept.drawn;
      words = kept.words;
      timeline = kept.timeline;
      counts = kept.counts;
      timeline_of = kept.timeline_of;
      each = λ j u e. ⊎_elim
          (λ p. subst (λ (x : View). AllFit k.config kept.run x.threads × AllNotedIn kept.timeline x.notes × AllTimed k.config kept.run (length kept.by.after.turns) x.threads × AllSeenIn kept.timeline x.threads) p.1 (tt, tt, tt, tt))
          (λ p. ⊎_elim
          (λ q. subst (λ (x : View). AllFit k.config kept.run x.threads × AllNotedIn kept.timeline x.notes × AllTimed k.config kept.run (length kept.by.after.turns) x.threads × AllSeenIn kept.timeline x.threads) q.1 (fit_append k.config kept.run v.threads w.threads mine.0 theirs.0, noted_append kept.timeline v.notes w.notes mine.1 theirs.1, timed_append k.config kept.run (length kept.by.after.turns) v.threads w.threads mine.2 theirs.2, seen_append kept.timeline v.threads w.threads mine.3 theirs.3))
          (λ q. kept.each j u q.1)
          (at_set s.views id j (joined v w) u p.1))
          (at_set (set s.views id (joined v w)) other j no_view u e);
      once = λ t tl. omega (arith, seats_set t (set s.views id (joined v w)) other w no_view that, seats_set t s.views id v (joined v w) at, threads_append t v.threads w.threads, kept.once t tl);
    }
