-- A worker that executes a command.
use Rattle.std.proofs.Common.{◌≡◌, ℕ, ◌+◌, ◌<◌, ◌≤◌, true, IsTrue, List, [], ◌∷◌, ◌++◌, length, append-nil, map, refl, sym, ap, ◌∙◌, subst, arith}
use Rattle.std.proofs.Math.Dec.{leb}
use Rattle.std.proofs.lemmas.Bool.{leb-true, le-leb}
use mathlib.Core.Option.{some}
use Rattle.atomic_table.specs.Table as table
use Rattle.atomic_table.specs.Seated.{TableId}
use Rattle.block_store.specs.declared.Config.{Config}
use Rattle.rate_plan.specs.Rates.{IsRate}
use Rattle.rate_plan.proofs.Rates.{one_rate}
use Rattle.never_heap.specs.declared.Command.{Command}
use Rattle.never_heap.specs.Bounds.{IsCommandInBounds}
use Rattle.never_heap.specs.Histories.{part}
use Rattle.never_heap.specs.RightWork.{units_owed}
use Rattle.heap_system.specs.Lives.{objects_of, most_commands, most_units, most_objects}
use Rattle.heap_system.specs.Locals.{LocalState, IsLocal, begun, is_done, is_rest, works}
use Rattle.heap_system.proofs.Lemmas.{as_long, at_rest, sum_last}
use Rattle.control_heap.specs.Growth.{given}
use Rattle.control_heap.proofs.DroppedHistory.{given_behind}
use Rattle.control_heap.proofs.GrownJobs.{HasRoomFor}
use Rattle.shared_heap.specs.declared.rules.ThreadView.{ThreadView}
use Rattle.shared_heap.specs.declared.rules.Moment.{Moment}
use Rattle.shared_heap.specs.declared.rules.Moment.TheVariants as moments
use Rattle.shared_heap.specs.declared.rules.SeenHistory.{SeenHistory}
use Rattle.shared_heap.specs.declared.rules.View.{View}
use Rattle.shared_heap.specs.Shared.{AllOfRuns, AllSeenIn, Gives, IsOfRun, IsStartOf, behind, first_held, given_of, given_past, gives_on, held, held_of, history_of, one_view}
use Rattle.shared_heap.specs.Pending.{Awaits, HasAnnounced, IsPending, MayAnnounce, PendingState, pending_of, start_pending}
use Rattle.shared_heap.specs.Workers.{AllStart, HasLeft, HasRoom, HasSeenIts, IsDealt, IsMirrored, Mirrors, WorkerState, worker_of}
use Rattle.shared_heap.proofs.ThreadFacts.{its_fits, its_legal, its_licensed, its_part, its_rate, its_right, its_said, its_spent, part_begun, room_for}
use Rattle.shared_heap.proofs.Timelines.{invoked_history, noted_start}
use Rattle.shared_heap.proofs.Views.{starts_itself}

-- what the seat knows is one thread with these notes
pub held_is : (me : table.Me Command View) (l : LocalState) (h : ThreadView) (ns : List (List Moment)) → me ≡ (one_view h ns, []) → held_of l me.0.threads ≡ h
held_is me l h ns knows = ap (λ (m : table.Me Command View). held_of l m.0.threads) knows

pub notes_are : (me : table.Me Command View) (h : ThreadView) (ns : List (List Moment)) → me ≡ (one_view h ns, []) → me.0.notes ≡ ns
notes_are me h ns knows = ap (λ (m : table.Me Command View). m.0.notes) knows

pub is_kept : (me : table.Me Command View) (id : TableId) (l : LocalState) (h : ThreadView) (ns : List (List Moment)) (n o : ℕ) → Mirrors h ns me id l n o → IsMirrored me id l n o
is_kept me id l h ns n o k =
    subst (λ y. Mirrors (held_of l me.0.threads) y me id l n o) (sym (notes_are me h ns k.knows))
    (subst (λ y. Mirrors y ns me id l n o) (sym (held_is me l h ns k.knows)) k)

pub is_pending : (p : SeenHistory) (me : table.Me Command View) (id : TableId) (l : LocalState) (n o : ℕ) → Awaits p me id l n o → IsPending me id l n o
is_pending p me id l n o a =
    subst (λ x. Awaits x me id l n o) (sym (ap (λ (h : ThreadView). h.past) (held_is me l (held (behind p.call.local.trace p.call.local.log l) p) [] a.knows))) a

-- a worker at its start
pub dealt_kept : (me : table.Me Command View) (id : TableId) (l : LocalState) → me ≡ (one_view (first_held l) [], []) → id.slots ≡ 0 → IsDealt id.words l → IsMirrored me id l 0 0
dealt_kept me id l knows slots is = is_kept me id l (first_held l) [] 0 0 (record {
  knows = knows;
  history = refl;
  told = is.told;
  done = is.rest;
  count = refl;
  objects = refl;
  units = (let a : works l.log ≡ 0 = ap works is.log in omega (arith, a, is.before));
  one = is.one;
  slots = slots;
  words = is.words;
})

-- what a worker has seen, and its part of it
pub sound_of : (id : TableId) (h : ThreadView) (ns : List (List Moment)) → IsOfRun h.local.config h.past h.local → is_done h.local ≡ true → HasSeenIts (worker_of id h ns)
sound_of id h ns told done = record {
  legal = its_legal h.local.config h.past h.local told;
  licensed = its_licensed h.local.config h.past h.local told;
  right = λ rate planned. its_right h.local.config h.past h.local told rate planned;
  its = its_part h.local.config h.past h.local told done;
  asked = its_said h.local.config h.past h.local told done;
  ordered = refl;
  invoked = told.timeline_of.invoked h.local.thread told.there ∙ sym (ap (λ (l : LocalState). l.trace) told.local);
  formed = told.timeline_of.formed;
}

-- a worker: what its seat knows, and what it has in memory
module _ (me : table.Me Command View) (id : TableId) (l : LocalState) (n o : ℕ) (kept : IsMirrored me id l n o) where
  abbrev pub one : ThreadView
  one = held_of l me.0.threads

  abbrev pub whole : LocalState
  whole = one.local

  pub own_config : l.config ≡ whole.config
  own_config = sym (ap (λ (x : LocalState). x.config) kept.history)

  pub own_thread : l.thread ≡ whole.thread
  own_thread = sym (ap (λ (x : LocalState). x.thread) kept.history)

  pub rests : is_rest l.part ≡ true
  rests = sym (ap (λ (x : LocalState). is_rest x.part) kept.history) ∙ at_rest whole kept.done

  pub unspent : l.spent ≡ 0
  unspent = sym (ap (λ (x : LocalState). x.spent) kept.history) ∙ its_spent whole.config one.past whole kept.told kept.done

  pub own_rate : IsRate whole.config l.rate
  own_rate = subst (λ x. IsRate whole.config x) (ap (λ (x : LocalState). x.rate) kept.history) (its_rate whole.config one.past whole kept.told)

  pub sound : (w : WorkerState) → worker_of id one me.0.notes ≡ w → HasSeenIts w
  sound w seen = subst (λ x. HasSeenIts x) seen (sound_of id one me.0.notes kept.told kept.done)

  -- the code's test that its lifetime allows a command
  abbrev Low : ℕ → Type 0
  Low x = IsTrue (leb x most_units)

  pub left_is : (w : WorkerState) → whole ≡ w.thread → (k : Command) (done owes : ℕ) → done ≡ l.before + works l.log → owes ≡ units_owed l.config.width l.rate k → n < most_commands → o + objects_of k ≤ most_objects
      → (Low (done + owes) → HasLeft w k) × (HasLeft w k → Low (done + owes))
  left_is w seen k done owes made price few objects =
      let same : owes ≡ units_owed whole.config.width l.rate k = price ∙ ap (λ (x : Config). units_owed x.width l.rate k) own_config in
      subst (λ (x : LocalState). (Low (done + owes) → HasRoom x k) × (HasRoom x k → Low (done + owes))) seen (
        (λ low. (
          omega (arith, few, kept.count),
          omega (arith, objects, kept.objects),
          λ rate planned.
              (let is = leb-true (done + owes) most_units low in
              let e = ap (λ p. units_owed whole.config.width p k) (one_rate whole.config l.rate rate own_rate planned) in
              omega (arith, is, made, kept.units, same, e)),
        )),
        (λ left. le-leb (done + owes) most_units (let is = left.2 l.rate own_rate in omega (arith, is, made, kept.units, same))),
      )

  module _ (k : Command) (fits : IsCommandInBounds whole.config k) (left : HasRoom whole k) where
    pub has_room : HasRoomFor whole.config whole.thread k whole.trace
    has_room = room_for whole.config one.past whole kept.told kept.done k left

    -- the seat after the step that announces the command
    module _ (given_me : table.Me Command View) (phase : ℕ) (gives : gives_on (some k) phase me given_me) where
      abbrev pub gift : Gives k phase me given_me
      gift = gives k refl

      abbrev pub past : SeenHistory
      past = given_past k phase gift.now gift.turns me.0.notes one

      abbrev begun_now : LocalState
      begun_now = behind whole.trace whole.log (begun k l)

      is_behind : given k whole ≡ begun_now
      is_behind = given_behind whole l k kept.history

      knows_given : given_me ≡ (one_view (held (given k whole) past) [], [])
      knows_given = gift.moved ∙ ap (given_of k phase gift.now gift.turns) kept.knows

      knows_behind : given_me ≡ (one_view (held begun_now past) [], [])
      knows_behind = knows_given ∙ ap (λ x. (one_view (held x past) [], [])) is_behind

      told_begun : IsOfRun l.config past begun_now
      told_begun = (subst (λ (m : table.Me Command View). AllOfRuns m.0.threads) knows_behind gift.told).0

      begun_fits : IsLocal begun_now
      begun_fits = its_fits l.config past begun_now told_begun

      seen_then : IsStartOf one.past.seen gift.now
      seen_then = (subst (λ (m : table.Me Command View). AllSeenIn gift.now m.0.threads) kept.knows gift.seen).0

      noted_then : AllStart (map history_of me.0.notes) (history_of gift.now)
      noted_then = noted_start gift.now me.0.notes gift.noted

      long : length (whole.log ++ []) ≡ length whole.trace
      long = ap length (append-nil whole.log) ∙ as_long whole kept.done

      pub begin_units : l.before + works l.log + units_owed l.config.width l.rate k ≤ most_units
      begin_units = omega (arith, begun_fits.life, sum_last (units_owed l.config.width l.rate) whole.trace k (length (whole.log ++ [])) long, ap works (append-nil whole.log), kept.units)

      pub begin_objects : l.made + objects_of k ≤ most_objects
      begin_objects = omega (arith, begun_fits.made, sum_last objects_of whole.trace k (length (whole.log ++ [])) long)

      -- its part of the history when the command was announced: its log, since the command had no
      -- entry
      part_at_start : part whole.thread (history_of gift.now) ≡ whole.log
      part_at_start = ap (part whole.thread) (sym (invoked_history gift.now whole.thread k))
          ∙ part_begun l.config past begun_now told_begun rests
          (ap (λ (x : LocalState). x.thread) kept.history) (append-nil whole.log)

      module _ (own : TableId) (same_table : own ≡ id) where
        awaits_begun : Awaits past given_me own (begun k l) (n + 1) (o + objects_of k)
        awaits_begun = record {
          knows = knows_behind;
          long = sym (as_long whole kept.done);
          told = told_begun;
          few = λ alone. record { far = λ rate planned. omega arith; near = λ rate planned. omega arith };
          trace = refl;
          config = own_config;
          thread = own_thread;
          before = seen_then;
          noted = noted_then;
          more = starts_itself (gift.now ++ moments.Invoked whole.thread k ∷ []);
          part = part_at_start;
          said = its_said whole.config one.past whole kept.told kept.done;
          count = ap (λ x. x + 1) kept.count;
          objects = ap (λ x. x + objects_of k) kept.objects;
          units = kept.units;
          slots = ap (λ (t : TableId). t.slots) same_table ∙ kept.slots;
          words = ap (λ (t : TableId). t.words) same_table ∙ kept.words;
        }

        pub begun_pending : IsPending given_me own (begun k l) (n + 1) (o + objects_of k)
        begun_pending = is_pending past given_me own (begun k l) (n + 1) (o + objects_of k) awaits_begun

        -- the value of the command then
        pub begun_value : (w : WorkerState) → worker_of id one me.0.notes ≡ w → (p : PendingState) → p ≡ pending_of own (held_of (begun k l) given_me.0.threads) → p ≡ start_pending w k
        begun_value w seen p is =
            is
            ∙ ap (pending_of own) (held_is given_me (begun k l) (held (given k whole) past) [] knows_given)
            ∙ ap (λ (t : TableId). pending_of t (held (given k whole) past)) same_table
            ∙ ap (λ (x : WorkerState). start_pending x k) seen

-- the command of a worker that may announce it
pub announced : (me : table.Me Command View) (id : TableId) (l : LocalState) (k : Command) → MayAnnounce me id l k → (given_me : table.Me Command View) (phase : ℕ) → gives_on (some k) phase me given_me → (own : TableId) → own ≡ id → HasAnnounced me id l k given_me own (begun k l)
announced me id l k may given_me phase gives own same = record {
  table = same;
  config = refl;
  pending = λ n o kept. begun_pending me id l n o kept k may.bounds may.left given_me phase gives own same;
  value = begun_value me id l may.count may.objects may.kept k may.bounds may.left given_me phase gives own same (worker_of id (held_of l me.0.threads) me.0.notes) refl (pending_of own (held_of (begun k l) given_me.0.threads)) refl;
}

-- a worker that is between two commands may announce one that is in bounds, and that its life has
-- room for
pub may_announce : (me : table.Me Command View) (id : TableId) (l : LocalState) (n o : ℕ)
    → IsMirrored me id l n o → (old : WorkerState) (k : Command)
    → worker_of id (held_of l me.0.threads) me.0.notes ≡ old
    → IsCommandInBounds old.thread.config k → HasLeft old k → MayAnnounce me id l k
may_announce me id l n o kept old k is bounds left = record {
  count = n;
  objects = o;
  kept = kept;
  bounds = subst (λ (x : WorkerState). IsCommandInBounds x.thread.config k) (sym is) bounds;
  left = subst (λ (x : WorkerState). HasRoom x.thread k) (sym is) left;
}
