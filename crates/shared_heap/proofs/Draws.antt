-- A step that draws a stamp keeps the rule.
use Rattle.std.proofs.Common.{◌≡◌, ℕ, ◌<◌, ◌≤◌, ◌+◌, ◌^◌, ◌%◌, true, refl, arith, subst, sym, ap, ◌∙◌, List, [], ◌∷◌, ◌++◌, length, get_or, set, inl, inr, ⊎_elim}
use Rattle.std.proofs.lemmas.Bool.{cases_lt}
use mathlib.Core.Option.{some}
use lib.ListN.{get_elem?}
use Rattle.atomic_table.specs.Table as table
use Rattle.atomic_table.proofs.Lists.{at_set}
use Rattle.block_store.specs.declared.Config.{Config}
use Rattle.block_store.specs.Places.{extent, words_count}
use Rattle.never_heap.specs.declared.Command.{Command}
use Rattle.heap_system.specs.Locals.{LocalState, is_done}
use Rattle.heap_system.specs.Machines.{Run, local_in}
use Rattle.heap_system.specs.Systems.{Whole}
use Rattle.heap_system.proofs.Lemmas.{kept_of}
use Rattle.shared_heap.specs.declared.rules.ThreadView.{ThreadView}
use Rattle.shared_heap.specs.declared.rules.Moment.{Moment}
use Rattle.shared_heap.specs.declared.rules.Moment.TheVariants as moments
use Rattle.shared_heap.specs.declared.rules.SeenHistory.{SeenHistory}
use Rattle.shared_heap.specs.declared.rules.View.{View}
use Rattle.shared_heap.specs.Shared.{Fits, AllFit, AllNotedIn, AllSeenIn, AllTimed, IsCountUnlessWrapped, Draws, SharedKept, IsOfRun, IsStartOf, IsTimelineOf, held, later_past, one_view, stamps_in}
use Rattle.shared_heap.specs.Spans.{IsTimed}
use Rattle.control_heap.proofs.RunGrowth.{here}
use Rattle.shared_heap.proofs.Timelines.{stamps_append, timeline_stamped}
use Rattle.shared_heap.proofs.Views.{noted_more, seats_set, seen_more, starts_itself}
use Rattle.shared_heap.proofs.Words.{get_last, set_last}

-- the count goes on
counts_on : (n : ℕ) (tl : List Moment) → IsCountUnlessWrapped n (stamps_in tl) → IsCountUnlessWrapped ((n + 1) % 2 ^ 64) (stamps_in (tl ++ moments.Stamped ∷ []))
counts_on n tl (inr many) = inr (omega (arith, many, stamps_append tl (moments.Stamped ∷ [])))
counts_on n tl (inl is) = elim (cases_lt (n + 1) (2 ^ 64)) [
  | inl low ↦ inl (let e : (n + 1) % 2 ^ 64 ≡ stamps_in (tl ++ moments.Stamped ∷ []) = omega (arith, low, is, stamps_append tl (moments.Stamped ∷ [])) in e)
  | inr high ↦ inr (omega (arith, is, high, stamps_append tl (moments.Stamped ∷ [])))
]

module _ (k : Whole) (s : table.State Command View) (kept : SharedKept k s) (id : ℕ) (h : ThreadView) (ns : List (List Moment)) (at : get_elem? s.views id ≡ some (one_view h ns)) (done : is_done h.local ≡ true) (place : ℕ) (last : place ≡ words_count (extent k.config)) where
  abbrev c : Config
  c = k.config

  abbrev r : Run
  r = kept.run

  abbrev l : LocalState
  l = h.local

  f : Fits c r h
  f = (kept.each id (one_view h ns) at).0.0

  is : l ≡ local_in c r l.thread
  is = here c l.thread f.0 r kept.by.after l f.1

  config : l.config ≡ c
  config = ap (λ (x : LocalState). x.config) is ∙ ((kept_of c r kept.by.after).locals l.thread f.0).config

  timed : IsTimed c r (length kept.by.after.turns) h
  timed = (kept.each id (one_view h ns) at).2.0

  abbrev line : List Moment
  line = kept.timeline ++ moments.Stamped ∷ []

  lined : IsTimelineOf c r line
  lined = timeline_stamped c l.thread f.0 r kept.by.after kept.timeline kept.timeline_of

  abbrev past : SeenHistory
  past = later_past line (length kept.by.after.turns) h.past.span.own h.past

  abbrev pub then_view : View
  then_view = one_view (held l past) ns

  at_end : place ≡ length r.state.words
  at_end = last ∙ sym (kept_of c r kept.by.after).long

  found_is : get_or s.words place 0 ≡ kept.drawn
  found_is = ap (λ ws. get_or ws place 0) kept.words ∙ get_last r.state.words kept.drawn place 0 at_end

  abbrev next : ℕ
  next = (get_or s.words place 0 + 1) % 2 ^ 64

  still_timed : IsTimed c r (length kept.by.after.turns) (held l past)
  still_timed = record {
    own = omega (arith, timed.own, timed.last);
    last = omega arith;
    single = timed.single;
    ends = λ same nobody opened going b bound. (let z : true ≡ _ = sym done ∙ going in cc);
  }

  of_run : IsOfRun l.config past l
  of_run = subst (λ x. IsOfRun x past l) (sym config) (record {
    run = r;
    after = kept.by.after;
    there = f.0;
    local = is;
    timeline_of = lined;
    counted = refl;
  })

  pub draw_keeps : SharedKept k (table.stepped s place next id [] then_view table.keeps)
  draw_keeps = record {
    run = r;
    by = kept.by;
    drawn = next;
    words = ap (λ ws. set ws place next) kept.words ∙ set_last r.state.words kept.drawn place next at_end;
    timeline = line;
    counts = counts_on (get_or s.words place 0) kept.timeline (subst (λ n. IsCountUnlessWrapped n (stamps_in kept.timeline)) (sym found_is) kept.counts);
    timeline_of = lined;
    each = λ j u e. ⊎_elim
        (λ p. subst (λ (x : View). AllFit c r x.threads × AllNotedIn line x.notes × AllTimed c r (length kept.by.after.turns) x.threads × AllSeenIn line x.threads) p.1 ((f, tt), noted_more kept.timeline (moments.Stamped ∷ []) ns (kept.each id (one_view h ns) at).1, (still_timed, tt), (starts_itself line, tt)))
        (λ p. ((kept.each j u p.1).0, noted_more kept.timeline (moments.Stamped ∷ []) u.notes (kept.each j u p.1).1, (kept.each j u p.1).2, seen_more kept.timeline (moments.Stamped ∷ []) u.threads (kept.each j u p.1).3))
        (at_set s.views id j then_view u e);
    once = λ u ul. omega (arith, seats_set u s.views id (one_view h ns) then_view at, kept.once u ul);
  }

  pub draw_tells : Draws (get_or s.words place 0) (one_view h ns, []) (then_view, [])
  draw_tells = record {
    now = kept.timeline;
    turns = length kept.by.after.turns;
    moved = refl;
    told = (of_run, tt);
    seen = (kept.each id (one_view h ns) at).3;
    counts = subst (λ n. IsCountUnlessWrapped n (stamps_in kept.timeline)) (sym found_is) kept.counts;
  }

draw_allowed : (k : Whole) (id : ℕ) (h : ThreadView) (ns : List (List Moment)) (place : ℕ) → is_done h.local ≡ true → place ≡ words_count (extent k.config) → table.Allows (SharedKept k) 0 id (one_view h ns, []) place (λ n. (n + 1) % 2 ^ 64) (λ found. Draws found (one_view h ns, []))
draw_allowed k id h ns place done last s kept homes at low = (
  then_view k s kept id h ns at done place last,
  table.keeps,
  tt,
  draw_keeps k s kept id h ns at done place last,
  draw_tells k s kept id h ns at done place last,
)

-- the same, whatever the seat is called
pub draw_here : (k : Whole) (slots id : ℕ) (h : ThreadView) (ns : List (List Moment)) (me : table.Me Command View) (place : ℕ) → slots ≡ 0 → me ≡ (one_view h ns, []) → is_done h.local ≡ true → place ≡ words_count (extent k.config) → table.Allows (SharedKept k) slots id me place (λ n. (n + 1) % 2 ^ 64) (λ found. Draws found me)
draw_here k slots id h ns me place none knows done last =
    subst (λ x. table.Allows (SharedKept k) x id me place (λ n. (n + 1) % 2 ^ 64) (λ found. Draws found me)) (sym none)
    (subst (λ x. table.Allows (SharedKept k) 0 id x place (λ n. (n + 1) % 2 ^ 64) (λ found. Draws found x)) (sym knows) (draw_allowed k id h ns place done last))
