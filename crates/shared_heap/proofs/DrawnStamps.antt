-- A worker that draws a stamp, and what stamps tell of each other.
use Rattle.std.proofs.Common.{◌≡◌, ℕ, ◌+◌, ◌≤◌, ◌<◌, ◌^◌, Bool, refl, arith, subst, sym, ap, ◌∙◌, List, [], ◌∷◌, ◌++◌, append_assoc, length, inl, inr, ◌⊎◌}
use Rattle.atomic_table.specs.Table as table
use Rattle.atomic_table.specs.Seated.{TableId}
use Rattle.never_heap.specs.declared.Command.{Command}
use Rattle.heap_system.specs.Locals.{LocalState}
use Rattle.shared_heap.specs.declared.rules.ThreadView.{ThreadView}
use Rattle.shared_heap.specs.declared.rules.Moment.{Moment}
use Rattle.shared_heap.specs.declared.rules.Moment.TheVariants as moments
use Rattle.shared_heap.specs.declared.rules.View.{View}
use Rattle.shared_heap.specs.Shared.{AllOfRuns, AllSeenIn, IsCountUnlessWrapped, Draws, IsOfRun, IsStartOf, drawn_by, drawn_of, held_of, one_view, stamps_in}
use Rattle.shared_heap.specs.Stamps.{HasDrawn, HasFollowed}
use Rattle.shared_heap.specs.Workers.{IsMirrored, IsSame, Mirrors, WorkerState, worker_of}
use Rattle.shared_heap.proofs.Asking.{held_is, is_kept, notes_are, sound_of}
use Rattle.shared_heap.proofs.Timelines.{before_or_after, stamps_append, stamps_start}

-- a worker, and its seat after the step
module _ (me : table.Me Command View) (id : TableId) (l : LocalState) (n o : ℕ) (kept : IsMirrored me id l n o) (found : ℕ) (after : table.Me Command View) (own : TableId) (same : own ≡ id) (draws : Draws found me after) where
  abbrev one : ThreadView
  one = held_of l me.0.threads

  abbrev then_one : ThreadView
  then_one = drawn_by draws.now draws.turns one

  knows_then : after ≡ (one_view then_one me.0.notes, [])
  knows_then = draws.moved ∙ ap (drawn_of draws.now draws.turns) kept.knows

  told_then : IsOfRun one.local.config then_one.past one.local
  told_then = (subst (λ (m : table.Me Command View). AllOfRuns m.0.threads) knows_then draws.told).0

  seen_then : IsStartOf one.past.seen draws.now
  seen_then = (subst (λ (m : table.Me Command View). AllSeenIn draws.now m.0.threads) kept.knows draws.seen).0

  keeps_then : Mirrors then_one me.0.notes after own l n o
  keeps_then = record {
    knows = knows_then;
    history = kept.history;
    told = told_then;
    done = kept.done;
    count = kept.count;
    objects = kept.objects;
    units = kept.units;
    one = kept.one;
    slots = ap (λ (t : TableId). t.slots) same ∙ kept.slots;
    words = ap (λ (t : TableId). t.words) same ∙ kept.words;
  }

  pub kept_drawn : IsMirrored after own l n o
  kept_drawn = is_kept after own l then_one me.0.notes n o keeps_then

  now_is : worker_of own (held_of l after.0.threads) after.0.notes ≡ worker_of own then_one me.0.notes
  now_is = λ i. worker_of own (held_is after l then_one me.0.notes knows_then i) (notes_are after then_one me.0.notes knows_then i)

  drawn_so : HasDrawn (worker_of id one me.0.notes) found (worker_of own then_one me.0.notes)
  drawn_so = record {
    heap = same;
    thread = refl;
    notes = refl;
    events = refl;
    past = draws.now;
    timeline = refl;
    before = seen_then;
    counts = draws.counts;
    sound = sound_of own then_one me.0.notes told_then kept.done;
  }

  pub has_drawn : (old new : WorkerState) → worker_of id one me.0.notes ≡ old → new ≡ worker_of own (held_of l after.0.threads) after.0.notes → HasDrawn old found new
  has_drawn old new was becomes =
      subst (λ w. HasDrawn w found new) was
      (subst (λ w. HasDrawn (worker_of id one me.0.notes) found w) (sym (becomes ∙ now_is)) drawn_so)

-- it is the same worker
pub drawn_same : (old new : WorkerState) (n : ℕ) → HasDrawn old n new → IsSame old new
drawn_same old new n is = record {
  heap = is.heap;
  config = ap (λ (l : LocalState). l.config) is.thread;
  thread = ap (λ (l : LocalState). l.thread) is.thread;
}

pub followed_same : (old new : WorkerState) (n : ℕ) (reached : Bool) → HasFollowed old n reached new → IsSame old new
followed_same old new n reached is = drawn_same old new is.own is.drawn

-- a worker whose stamp is no less has seen at least as much
pub stamps_in_order : (timeline : List Moment) (u v x y : WorkerState) (n m : ℕ) → HasDrawn u n v → HasDrawn x m y → n ≤ m → IsStartOf v.timeline timeline → IsStartOf y.timeline timeline → IsStartOf v.timeline y.timeline ⊎ (2 ^ 64 ≤ stamps_in timeline)
stamps_in_order timeline u v x y n m first second low lined then_lined =
    let many : stamps_in first.past + 1 ≤ stamps_in timeline = omega (arith, ap stamps_in first.timeline, stamps_append first.past (moments.Stamped ∷ []), stamps_start v.timeline timeline lined) in
    let more : stamps_in second.past + 1 ≡ stamps_in y.timeline = omega (arith, ap stamps_in second.timeline, stamps_append second.past (moments.Stamped ∷ [])) in
    let all : stamps_in y.timeline ≤ stamps_in timeline = stamps_start y.timeline timeline then_lined in
    let whole : first.past ++ moments.Stamped ∷ lined.0 ≡ y.timeline ++ then_lined.0 =
    sym (append_assoc first.past (moments.Stamped ∷ []) lined.0) ∙ ap (λ l. l ++ lined.0) (sym first.timeline) ∙ sym lined.1 ∙ then_lined.1 in
    elim first.counts [
      | inr big ↦ inr (omega (arith, big, many))
      | inl is ↦ elim second.counts [
        | inr big ↦ inr (omega (arith, big, more, all))
        | inl so ↦ elim (before_or_after y.timeline then_lined.0 first.past moments.Stamped lined.0 whole) [
          | inl s ↦ absurd (omega (arith, is, so, low, more, stamps_start y.timeline first.past s))
          | inr s ↦ inl (subst (λ p. IsStartOf p y.timeline) (sym first.timeline) s)
        ]
      ]
    ]
