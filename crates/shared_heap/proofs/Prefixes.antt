-- What holds in every state: one history, and the bounds of a command that runs alone.
use Rattle.std.proofs.Common.{◌≡◌, ℕ, suc, ◌<◌, ◌≤◌, ◌+◌, Bool, true, false, eqb, eqb-true, Option, Some, None, refl, arith, subst, sym, ap, ◌∙◌, List, [], ◌∷◌, ◌++◌, length, length-append, get_or, map, take, inl, inr}
use Rattle.std.proofs.lemmas.Bool.{cases_Bool, cases_lt}
use mathlib.Core.Option.{some}
use lib.ListN.{get_elem?}
use Rattle.atomic_table.specs.Table as table
use Rattle.block_store.specs.declared.Config.{Config}
use Rattle.block_store.specs.Phases.{bit}
use Rattle.never_heap.specs.declared.Command.{Command}
use Rattle.never_heap.specs.declared.Command.TheVariants as commands
use Rattle.never_heap.specs.declared.Entry.{Entry}
use Rattle.never_heap.specs.declared.Reply.{Reply}
use Rattle.never_heap.specs.Bounds.{IsCommandInBounds}
use Rattle.never_heap.specs.Histories.{part, replay}
use Rattle.heap_system.specs.Alone.{IsQuiet, HasCommand, EndsWithin, command_bound, command_near}
use Rattle.heap_system.specs.Locals.{LocalState, command_of, entries_of, is_done}
use Rattle.heap_system.specs.Machines.{Run, local_in}
use Rattle.heap_system.specs.Pictures.{entries_waiting, waiting}
use Rattle.heap_system.specs.Systems.{Whole}
use Rattle.heap_system.proofs.Lemmas.{Kept, as_long, at_rest, kept_of, laws_of, licensed, lone_ends, near_ends, rest_is, right_work, tallies_of}
use Rattle.control_heap.specs.Controls.{IsByEvents}
use Rattle.control_heap.specs.Growth.{given, run_grown}
use Rattle.control_heap.proofs.GrownJobs.{HasRoomFor}
use Rattle.shared_heap.specs.declared.rules.ThreadView.{ThreadView}
use Rattle.shared_heap.specs.declared.rules.SeenHistory.{SeenHistory}
use Rattle.shared_heap.specs.declared.rules.Moment.{Moment}
use Rattle.shared_heap.specs.declared.rules.View.{View}
use Rattle.shared_heap.specs.Shared.{Fits, AllFit, SharedKept, IsOfRun, later_past, one_view, seats_of, threads_of}
use Rattle.shared_heap.specs.Workers.{HasRoom}
use Rattle.shared_heap.specs.Prefixes.{AllDone, HasPartOf, AllHaveParts, FitsOneHistory, AllAreDone, EndsInTime}
use Rattle.shared_heap.proofs.Quiet.{all_done_quiet}
use Rattle.shared_heap.proofs.Timelines.{keeps_real_time}
use Rattle.control_heap.proofs.RunGrowth.{events_grown, given_here, here}
use Rattle.shared_heap.proofs.ThreadFacts.{room_for}

one_at_most : (t : ℕ) (k : Command) (work : ℕ) (a : Option Reply) → length (entries_of t k work a) ≤ 1
one_at_most t k work None = omega arith
one_at_most t k work (Some r) = omega arith

hand_of : (t : ℕ) (k : Command) (work : ℕ) (a : Option Reply) → map (λ (e : Entry). e.command) (entries_of t k work a) ≡ take (length (entries_of t k work a)) (k ∷ [])
hand_of t k work None = refl
hand_of t k work (Some r) = refl

module _ (k : Whole) (s : table.State Command View) (kept : SharedKept k s) where
  abbrev c : Config
  c = k.config

  abbrev r : Run
  r = kept.run

  all : Kept c kept.by.after.traces r
  all = kept_of c r kept.by.after

  part_of : (h : ThreadView) → Fits c r h → HasPartOf kept.timeline r.order h.local
  part_of h f =
      let l : LocalState = h.local in
      let is : l ≡ local_in c r l.thread = here c l.thread f.0 r kept.by.after l f.1 in
      let own = all.locals l.thread f.0 in
      let told : part l.thread r.order ≡ l.log ++ entries_waiting (replay c r.order) l = subst (λ (x : LocalState). part l.thread r.order ≡ x.log ++ entries_waiting (replay c r.order) x) (sym is) own.told in
      record {
        more = entries_waiting (replay c r.order) l;
        few = one_at_most l.thread (command_of l) l.spent (waiting (replay c r.order) l.part);
        told = told;
        rest = λ done. ap (λ p. entries_of l.thread (command_of l) l.spent (waiting (replay c r.order) p)) (rest_is l.part (at_rest l done));
        asked = subst (λ (x : LocalState). map (λ (e : Entry). e.command) x.log ≡ take (length x.log) x.trace) (sym is) own.said;
        hand = hand_of l.thread (command_of l) l.spent (waiting (replay c r.order) l.part);
        invoked = kept.timeline_of.invoked l.thread f.0 ∙ sym (ap (λ (x : LocalState). x.trace) is);
      }

  parts_of : (hs : List ThreadView) → AllFit c r hs → AllHaveParts kept.timeline r.order hs
  parts_of [] fit = tt
  parts_of (h ∷ hs) fit = (part_of h fit.0, parts_of hs fit.1)

  pub fits_one : FitsOneHistory c s
  fits_one = record {
    timeline = kept.timeline;
    order = r.order;
    legal = all.names.ordered.legal;
    licensed = licensed c kept.by.after.traces (laws_of c) (tallies_of c) kept.by.after.job kept.by.after.turns r kept.by.after.by_turns kept.by.after.by_turns.opening.rate kept.by.after.by_turns.opening.planned;
    right = λ rate planned. right_work c kept.by.after.traces r all rate planned;
    parts = λ id v at. (parts_of v.threads (kept.each id v at).0, (kept.each id v at).3, (kept.each id v at).1);
    once = kept.once;
    others = all.foreign;
    ordered = kept.timeline_of.ordered;
    no_others = kept.timeline_of.others;
    formed = kept.timeline_of.formed;
    real_time = keeps_real_time kept.timeline r.order kept.timeline_of.ordered kept.timeline_of.formed;
  }

  pub fits_order : fits_one.order ≡ r.order
  unfolding fits_one
  fits_order = refl

  pub fits_timeline : fits_one.timeline ≡ kept.timeline
  unfolding fits_one
  fits_timeline = refl

  -- each thread is in some view
  in_view : (t : ℕ) → t < c.threads → (hs : List ThreadView) → 0 < threads_of t hs → AllFit c r hs → AllDone hs → is_done (local_in c r t) ≡ true
  in_view t tl [] more fit done = absurd (omega (arith, more))
  in_view t tl (h ∷ hs) more fit done = elim (cases_Bool (eqb t h.local.thread)) [
    | inl e ↦
        let same : t ≡ h.local.thread = eqb-true t h.local.thread e in
        let is : h.local ≡ local_in c r t = here c t tl r kept.by.after h.local (subst (λ u. h.local ≡ get_or r.state.locals u h.local) (sym same) fit.0.1) in
        ap is_done (sym is) ∙ done.0
    | inr e ↦ in_view t tl hs (let none : bit (eqb t h.local.thread) ≡ 0 = ap bit e in omega (arith, none, more)) fit.1 done.1
  ]

  in_views : (t : ℕ) → t < c.threads → (views : List View) → 0 < seats_of t views → ((id : ℕ) (v : View) → get_elem? views id ≡ some v → AllFit c r v.threads × AllDone v.threads) → is_done (local_in c r t) ≡ true
  in_views t tl [] more each = absurd (omega (arith, more))
  in_views t tl (v ∷ vs) more each = elim (cases_lt 0 (threads_of t v.threads)) [
    | inl low ↦ in_view t tl v.threads low (each 0 v refl).0 (each 0 v refl).1
    | inr none ↦ in_views t tl vs (omega (arith, none, more)) (λ id w at. each (suc id) w at)
  ]

  module _ (over : AllAreDone s) where
    done_at : (t : ℕ) → t < c.threads → is_done (local_in c r t) ≡ true
    done_at t tl = in_views t tl s.views (omega (arith, kept.once t tl)) (λ id v at. ((kept.each id v at).0, over id v at))

    quiet : IsQuiet c r
    quiet = all_done_quiet c kept.by.after.traces r all done_at

    module _ (id : ℕ) (h : ThreadView) (ns : List (List Moment)) (m : Command) (at : get_elem? s.views id ≡ some (one_view h ns)) (bounds : IsCommandInBounds h.local.config m) (room : HasRoom h.local m) where
      abbrev l : LocalState
      l = h.local

      abbrev t : ℕ
      t = l.thread

      fit : Fits c r h
      fit = (kept.each id (one_view h ns) at).0.0

      done : is_done l ≡ true
      done = (over id (one_view h ns) at).0

      is : l ≡ local_in c r t
      is = here c t fit.0 r kept.by.after l fit.1

      config : l.config ≡ c
      config = ap (λ (x : LocalState). x.config) is ∙ (all.locals t fit.0).config

      -- a seat that knows the run
      abbrev past : SeenHistory
      past = later_past kept.timeline (length kept.by.after.turns) 0 h.past

      of_run : IsOfRun c past l
      of_run = record { run = r; after = kept.by.after; there = fit.0; local = is; timeline_of = kept.timeline_of; counted = refl }

      trace : l.trace ≡ get_or kept.by.after.traces t []
      trace = ap (λ (x : LocalState). x.trace) is ∙ (all.locals t fit.0).trace

      abbrev later : Run
      later = run_grown t m r

      by_grown : IsByEvents c later
      by_grown = events_grown c t fit.0 r kept.by m (subst (λ x. IsCommandInBounds x m) config bounds) (subst (λ x. HasRoomFor c t m x) trace (room_for c past l of_run done m room))

      own : given m l ≡ local_in c later t
      own = given_here c t fit.0 r m l is refl

      still : IsQuiet c later
      still = record { nobody = quiet.nobody; opened = quiet.opened }

      has : HasCommand (local_in c later t)
      has = subst (λ x. HasCommand x) own (record {
        rest = at_rest l done;
        left = (let a : length (l.trace ++ m ∷ []) ≡ length l.trace + 1 = length-append l.trace (m ∷ []) in omega (arith, a, as_long l done));
      })

      last_of : (xs : List Command) (n : ℕ) → n ≡ length xs → get_or (xs ++ m ∷ []) n (commands.Nil 0) ≡ m
      last_of [] n e = ap (λ j. get_or (m ∷ []) j (commands.Nil 0)) e
      last_of (x ∷ xs) n e = ap (λ j. get_or (x ∷ xs ++ m ∷ []) j (commands.Nil 0)) e ∙ last_of xs (length xs) refl

      command_is : command_of (local_in c later t) ≡ m
      command_is = ap command_of (sym own) ∙ last_of l.trace (length l.log) (as_long l done)

      pub in_time : EndsInTime c t m r
      in_time = record {
        far = λ rate planned. subst (λ x. EndsWithin c t later (command_bound c rate x)) command_is
            (lone_ends c by_grown.after.traces by_grown.after.job rate planned t fit.0 later (kept_of c later by_grown.after) still has);
        near = λ rate planned. subst (λ x. EndsWithin c t later (command_near c rate x)) command_is
            (near_ends c by_grown.after.traces by_grown.after.job rate planned t fit.0 later (kept_of c later by_grown.after) still has);
      }
