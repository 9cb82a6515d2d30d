-- What was seen comes before what is invoked later.
use Rattle.std.proofs.Common.{◌≡◌, ℕ, ◌≤◌, refl, arith, subst, sym, ap, ◌∙◌, List, [], ◌∷◌, ◌++◌, length, length-append, get_or, drop, eq-eqb, inl, inr, ◌⊎◌, append_assoc}
use Rattle.std.proofs.lemmas.List.{length-map}
use Rattle.atomic_table.specs.Table as table
use Rattle.never_heap.specs.declared.Command.{Command}
use Rattle.never_heap.specs.declared.Entry.{Entry}
use Rattle.never_heap.specs.declared.Reply.{Reply}
use Rattle.never_heap.specs.Histories.{HistoryItem, part}
use Rattle.heap_system.specs.Locals.{LocalState}
use Rattle.heap_system.specs.Machines.{local_in}
use Rattle.heap_system.specs.Systems.{Whole}
use Rattle.shared_heap.specs.declared.rules.ThreadView.{ThreadView}
use Rattle.shared_heap.specs.declared.rules.Moment.{Moment}
use Rattle.shared_heap.specs.declared.rules.Moment.TheVariants as moments
use Rattle.shared_heap.specs.declared.rules.View.{View}
use Rattle.shared_heap.specs.EntryPlaces.{StandsBehind}
use Rattle.shared_heap.specs.RealTime.{PrecedesLaterCommands, IsSeatOf, HadSeen}
use Rattle.shared_heap.specs.Shared.{Fits, IsStartOf, SharedKept, history_of, invoked_in}
use Rattle.shared_heap.specs.Workers.{HasAnswered, HasSeenIts, WorkerState}
use Rattle.shared_heap.proofs.EntryAfterSeen.{part_before, stands_after, stands_still, still_thread}
use Rattle.control_heap.proofs.RunGrowth.{here}
use Rattle.shared_heap.proofs.Timelines.{before_or_after, history_start, invoked_append, invoked_start, keeps_real_time}
use Rattle.shared_heap.proofs.Views.{starts_on}

-- what a seat has seen is a prefix of the timeline
pub line_of : (k : Whole) (s : table.State Command View) (kept : SharedKept k s) (p : List Moment) → HadSeen s p → IsStartOf p kept.timeline
line_of k s kept p was =
    let seat = was.seat in
    starts_on p was.worker.past.seen kept.timeline was.seen (kept.each seat.0 _ seat.2).3.0

-- a thread's commands are those that the timeline has invocations of
pub has_invoked : (k : Whole) (s : table.State Command View) (kept : SharedKept k s) (h : ThreadView) → IsSeatOf s h → invoked_in h.local.thread kept.timeline ≡ h.local.trace
has_invoked k s kept h seat =
    let f : Fits k.config kept.run h = (kept.each seat.0 _ seat.2).0.0 in
    let is : h.local ≡ local_in k.config kept.run h.local.thread = here k.config h.local.thread f.0 kept.run kept.by.after h.local f.1 in
    kept.timeline_of.invoked h.local.thread f.0 ∙ sym (ap (λ (l : LocalState). l.trace) is)

pub comes_before : (k : Whole) (s later : table.State Command View) (now : SharedKept k s) (then : SharedKept k later) (p : List Moment) → HadSeen s p → HadSeen later p → (h : ThreadView) → IsSeatOf s h → PrecedesLaterCommands p h then.run.order
comes_before k s later now then p was still h seat t n many =
    keeps_real_time then.timeline then.run.order then.timeline_of.ordered then.timeline_of.formed p (line_of k later then p still) t n h.local.thread (length h.local.trace) many
    (omega (arith, invoked_start h.local.thread p now.timeline (line_of k s now p was), ap length (has_invoked k s now h seat)))

-- lists with appended ends that are equal have equal fronts, if these are as long
same_front : {A : Type 0} (xs ys us vs : List A) → length xs ≡ length ys → xs ++ us ≡ ys ++ vs → xs ≡ ys
same_front [] [] us vs long e = refl
same_front [] (y ∷ ys) us vs long e = absurd (omega (arith, long))
same_front (x ∷ xs) [] us vs long e = absurd (omega (arith, long))
same_front (x ∷ xs) (y ∷ ys) us vs long e =
    let head : x ≡ y = ap (λ l. get_or l 0 x) e in
    let rest : xs ≡ ys = same_front xs ys us vs (omega (arith, long)) (ap (drop 1) e) in
    λ i. head i ∷ rest i

-- the timeline has the worker's earlier commands before the command's invocation, and no others of it
pub invoked_before : (old new : WorkerState) (k : Command) (a : Reply) (is : HasAnswered old k a new) → invoked_in old.thread.thread is.past ≡ old.thread.trace
invoked_before old new k a is =
    let t : ℕ = old.thread.thread in
    let rest : List Moment = moments.Invoked t k ∷ is.later in
    let one : invoked_in t rest ≡ k ∷ invoked_in t is.later = rw (eq-eqb t t refl) refl in
    let whole : invoked_in t is.past ++ k ∷ invoked_in t is.later ≡ old.thread.trace ++ k ∷ [] =
    ap (λ l. invoked_in t is.past ++ l) (sym one)
    ∙ sym (invoked_append t is.past rest)
    ∙ ap (invoked_in t) (sym is.timeline)
    ∙ ap (λ u. invoked_in u new.timeline) (sym (still_thread old new k a is))
    ∙ is.sound.invoked ∙ is.asked in
    let entries : part t (history_of is.past) ≡ old.thread.log = ap (part t) (sym is.started) ∙ part_before old new k a is in
    let least : length (part t (history_of is.past)) ≤ length (invoked_in t is.past) = (is.sound.formed is.past (rest, is.timeline) t).0 in
    let counts : length old.thread.log ≡ length old.thread.trace =
    omega (
      arith,
      ap length is.told,
      length-append old.thread.log (is.entry ∷ []),
      ap length is.asked,
      length-append old.thread.trace (k ∷ []),
      ap length is.sound.asked,
      length-map new.thread.log (λ (e : Entry). e.command),
    ) in
    same_front (invoked_in t is.past) old.thread.trace (k ∷ invoked_in t is.later) (k ∷ []) (omega (
      arith,
      ap length whole,
      length-append (invoked_in t is.past) (k ∷ invoked_in t is.later),
      length-append old.thread.trace (k ∷ []),
      ap length entries,
      least,
      counts,
    )) whole

-- a command whose worker has seen a prefix of this timeline
module _ (timeline : List Moment) (x y : WorkerState) (m : Command) (b : Reply) (did : HasAnswered x m b y) (seen : IsStartOf y.timeline timeline) where
  -- it comes after what was seen before it was invoked
  module _ (order : List HistoryItem) (ordered : order ≡ history_of timeline) where
    seen_start : IsStartOf y.seen order
    seen_start = subst (λ h. IsStartOf h order) (sym did.sound.ordered) (subst (λ o. IsStartOf (history_of y.timeline) o) (sym ordered) (history_start y.timeline timeline seen))

    pub after : (v : WorkerState) → HasSeenIts v → IsStartOf v.timeline did.past → StandsBehind v.seen x.thread.log did.entry order
    after v sound line =
        let begun : IsStartOf v.seen did.start = subst (λ h. IsStartOf h did.start) (sym sound.ordered) (subst (λ h. IsStartOf (history_of v.timeline) h) (sym did.started) (history_start v.timeline did.past line)) in
        stands_still v.seen y.seen order x.thread.log did.entry (stands_after x y m b did v.seen begun) seen_start

  abbrev call : Moment
  call = moments.Invoked x.thread.thread m

  -- the timeline, with the invocation of the command
  whole : (v : WorkerState) → (line : IsStartOf v.timeline timeline) → did.past ++ call ∷ (did.later ++ seen.0) ≡ v.timeline ++ line.0
  whole v line =
      sym (append_assoc did.past (call ∷ did.later) seen.0)
      ∙ ap (λ l. l ++ seen.0) (sym did.timeline)
      ∙ sym seen.1 ∙ line.1

  pub either_way : (v : WorkerState) → IsStartOf v.timeline timeline → IsStartOf v.timeline did.past ⊎ IsStartOf (did.past ++ call ∷ []) v.timeline
  either_way v line = before_or_after v.timeline line.0 did.past call (did.later ++ seen.0) (whole v line)
