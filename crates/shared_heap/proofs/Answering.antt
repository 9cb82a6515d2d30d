-- A worker that makes the events of its command, and the end of it.
use Rattle.std.proofs.Common.{◌≡◌, ℕ, ◌+◌, ◌≤◌, true, false, List, [], ◌∷◌, ◌++◌, append_assoc, length, length-append, get_or, map, refl, sym, ap, ◌∙◌, subst, arith}
use Rattle.std.proofs.lemmas.List.{append_cancel_left, map-append}
use Rattle.atomic_table.specs.Table as table
use Rattle.atomic_table.specs.Seated.{TableId}
use Rattle.never_heap.specs.declared.Command.{Command}
use Rattle.never_heap.specs.declared.Entry.{Entry}
use Rattle.never_heap.specs.declared.Reply.{Reply}
use Rattle.never_heap.specs.Histories.{part}
use Rattle.never_heap.proofs.Lemmas.{part_append}
use Rattle.heap_system.specs.Lives.{sum_after, objects_of}
use Rattle.heap_system.specs.Locals.{LocalState, is_done, works}
use Rattle.heap_system.proofs.Lemmas.{as_long, sum_more, works_append}
use Rattle.control_heap.proofs.DroppedHistory.{behind_done, history_of as history_of_thread}
use Rattle.shared_heap.specs.declared.port.Port.{Port}
use Rattle.shared_heap.specs.declared.rules.ThreadView.{ThreadView}
use Rattle.shared_heap.specs.declared.rules.Moment.{Moment}
use Rattle.shared_heap.specs.declared.rules.Moment.TheVariants as moments
use Rattle.shared_heap.specs.declared.rules.SeenHistory.{SeenHistory}
use Rattle.shared_heap.specs.declared.rules.View.{View}
use Rattle.shared_heap.specs.Shared.{IsOfRun, behind, held, held_of, history_of, later_past}
use Rattle.shared_heap.specs.Ports.{HasThread, HasGoneOn, HasSeenMore}
use Rattle.shared_heap.specs.Spans.{IsInTime}
use Rattle.shared_heap.specs.Turns.{GoesFar}
use Rattle.shared_heap.specs.Pending.{Awaits, IsPending, IsStillPending, MadeMore, PendingState, pending_of, start_pending}
use Rattle.shared_heap.specs.Workers.{HasAnswered, HasMade, IsMirrored, IsSame, Mirrors, WorkerState, worker_of}
use Rattle.shared_heap.proofs.Asking.{held_is, is_kept, is_pending, notes_are, sound_of}
use Rattle.shared_heap.proofs.ThreadFacts.{its_part, its_said}
use Rattle.shared_heap.proofs.ThreadAfterEvents.{far_behind}
use Rattle.shared_heap.proofs.Timelines.{history_append, history_start}
use Rattle.shared_heap.proofs.Views.{starts_on}

-- a pending command: what its seat knows, and what is in memory
module _ (me : table.Me Command View) (id : TableId) (l : LocalState) (n o : ℕ) (is : IsPending me id l n o) where
  abbrev past : SeenHistory
  past = (held_of l me.0.threads).past

  abbrev ks : List Command
  ks = past.call.local.trace

  abbrev es : List Entry
  es = past.call.local.log

  -- its thread
  abbrev here : ThreadView
  here = held (behind ks es l) past

  here_is : held_of l me.0.threads ≡ here
  here_is = held_is me l here [] is.knows

  pub has_thread : (shared : TableId) → id ≡ shared → HasThread me id shared l
  has_thread shared same = record {
    commands = ks;
    entries = es;
    past = past;
    long = is.long;
    knows = is.knows;
    told = is.told;
    few = is.few;
    words = is.words;
    slots = is.slots;
    table = same;
  }

  -- after some events
  module _ (shared : TableId) (same : id ≡ shared) (after : table.Me Command View) (own_after : TableId) (z : LocalState) (has : HasThread after own_after shared z) (ws : List ℕ) (on : HasGoneOn me l ws after z) where
    abbrev seen_more : HasSeenMore ks es past l ws after z
    seen_more = on.front ks es past is.long is.knows

    abbrev then_past : SeenHistory
    then_past = later_past seen_more.now seen_more.turns (past.span.own + length ws) past

    abbrev then_held : ThreadView
    then_held = held (behind ks es z) then_past

    same_held : held (behind has.commands has.entries z) has.past ≡ then_held
    same_held = sym (held_is after z (held (behind has.commands has.entries z) has.past) [] has.knows) ∙ held_is after z then_held [] seen_more.knows

    told_then : IsOfRun z.config then_past (behind ks es z)
    told_then = subst (λ (x : ThreadView). IsOfRun z.config x.past x.local) same_held has.told

    few_then : IsInTime z.config then_past.call.command then_past.span
    few_then = subst (λ (x : ThreadView). IsInTime z.config x.past.call.command x.past.span) same_held has.few

    awaits_then : Awaits then_past after own_after z n o
    awaits_then = record {
      knows = seen_more.knows;
      long = is.long;
      told = told_then;
      few = few_then;
      trace = on.trace ∙ is.trace;
      config = on.config ∙ is.config;
      thread = on.thread ∙ is.thread;
      before = is.before;
      noted = is.noted;
      more = starts_on (past.call.start ++ moments.Invoked past.call.local.thread past.call.command ∷ []) past.seen seen_more.now is.more seen_more.more;
      part = is.part;
      said = is.said;
      count = is.count;
      objects = is.objects;
      units = is.units ∙ sym on.before;
      slots = has.slots;
      words = has.words;
    }

    pending_then : IsPending after own_after z n o
    pending_then = is_pending then_past after own_after z n o awaits_then

    same_id : own_after ≡ id
    same_id = has.table ∙ sym same

    -- what becomes of the command's value
    value_then : (old : PendingState) → pending_of id (held_of l me.0.threads) ≡ old → pending_of own_after (held_of z after.0.threads) ≡ record old { thread = behind ks es z; events = past.span.own + length ws }
    value_then old was =
        ap (pending_of own_after) (held_is after z then_held [] seen_more.knows)
        ∙ ap (λ t. pending_of t then_held) same_id
        ∙ ap (λ (x : PendingState). record x { thread = behind ks es z; events = past.span.own + length ws }) (ap (pending_of id) (sym here_is) ∙ was)

    -- the events that were made
    made_so : (most : ℕ) → length ws ≤ most → GoesFar most l ws z → (old : PendingState) → pending_of id (held_of l me.0.threads) ≡ old → MadeMore old most (behind ks es z) (past.span.own + length ws)
    made_so most few far old was = subst (λ x. MadeMore x most (behind ks es z) (past.span.own + length ws)) (ap (pending_of id) (sym here_is) ∙ was) (record {
      words = ws;
      made = seen_more.made;
      few = few;
      far = far_behind ks es is.long most l ws z far;
      counted = refl;
    })

    still : (most : ℕ) → length ws ≤ most → GoesFar most l ws z → is_done z ≡ false → (old new : PendingState) → pending_of id (held_of l me.0.threads) ≡ old → new ≡ pending_of own_after (held_of z after.0.threads) → IsStillPending old most new
    still most few far going old new was becomes =
        subst (λ x. IsStillPending old most x) (sym (becomes ∙ value_then old was)) (record {
          heap = refl;
          worker = refl;
          command = refl;
          made = made_so most few far old was;
          going = behind_done ks es is.long z ∙ going;
        })

    worker_then : (new : WorkerState) → new ≡ worker_of own_after (held_of z after.0.threads) after.0.notes → new ≡ worker_of own_after then_held []
    worker_then new becomes = becomes ∙ (λ i. worker_of own_after (held_is after z then_held [] seen_more.knows i) (notes_are after then_held [] seen_more.knows i))

    made_then : (most : ℕ) → length ws ≤ most → GoesFar most l ws z → (old : PendingState) (new : WorkerState) → pending_of id (held_of l me.0.threads) ≡ old → new ≡ worker_of own_after (held_of z after.0.threads) after.0.notes → MadeMore old most new.thread new.span.own
    made_then most few far old new was becomes =
        subst (λ (x : WorkerState). MadeMore old most x.thread x.span.own) (sym (worker_then new becomes)) (made_so most few far old was)

    made_all : (old new : WorkerState) (k : Command) → pending_of id (held_of l me.0.threads) ≡ start_pending old k → new ≡ worker_of own_after (held_of z after.0.threads) after.0.notes → HasMade old k new
    made_all old new k was becomes =
        let is = made_then (length ws) (omega arith) (λ going less. absurd (omega (arith, less))) (start_pending old k) new was becomes in
        record { words = is.words; made = is.made; own = omega (arith, is.counted) }

  -- at its end
  module _ (done : is_done l ≡ true) where
    abbrev whole : LocalState
    whole = behind ks es l

    done_whole : is_done whole ≡ true
    done_whole = behind_done ks es is.long l ∙ done

    one_entry : length l.log ≡ 1
    one_entry = as_long l done ∙ ap length is.trace

    -- the entry of the command
    abbrev answer : Entry → Entry
    answer d = get_or l.log 0 d

    log_is : (d : Entry) → l.log ≡ answer d ∷ []
    log_is d = single l.log one_entry
      where
        single : (es : List Entry) → length es ≡ 1 → es ≡ get_or es 0 d ∷ []
        single [] e = absurd (omega arith)
        single (x ∷ []) e = refl
        single (x ∷ y ∷ es) e = absurd (omega arith)

    keeps_then : Mirrors here [] me id l n o
    keeps_then = record {
      knows = is.knows;
      history = history_of_thread whole l ks es refl;
      told = is.told;
      done = done_whole;
      count = ap (λ cs. length (ks ++ cs)) is.trace ∙ length-append ks (past.call.command ∷ []) ∙ is.count;
      objects = ap (λ cs. sum_after objects_of 0 (ks ++ cs)) is.trace ∙ sum_more objects_of ks past.call.command ∙ is.objects;
      units = works_append es l.log ∙ ap (λ x. x + works l.log) is.units;
      one = ap length is.trace;
      slots = is.slots;
      words = is.words;
    }

    kept_then : IsMirrored me id l n o
    kept_then = is_kept me id l here [] n o keeps_then

    command_is : (d : Entry) → (answer d).command ≡ past.call.command
    command_is d =
        let k : Command = past.call.command in
        let said : map (λ (e : Entry). e.command) (es ++ l.log) ≡ ks ++ l.trace = its_said l.config past whole is.told done_whole in
        let all : ks ++ (answer d).command ∷ [] ≡ ks ++ k ∷ [] =
        ap (λ xs. xs ++ (answer d).command ∷ []) (sym is.said) ∙ sym (map-append (λ (e : Entry). e.command) es (answer d ∷ [])) ∙ ap (λ xs. map (λ (e : Entry). e.command) (es ++ xs)) (sym (log_is d)) ∙ said ∙ ap (λ cs. ks ++ cs) is.trace in
        ap (λ (xs : List Command). get_or xs 0 k) (append_cancel_left ks ((answer d).command ∷ []) (k ∷ []) all)

    -- what the timeline has after the command's invocation
    abbrev later : List Moment
    later = is.more.0

    timeline_is : past.seen ≡ past.call.start ++ moments.Invoked past.call.local.thread past.call.command ∷ later
    timeline_is = is.more.1 ∙ append_assoc past.call.start (moments.Invoked past.call.local.thread past.call.command ∷ []) later

    seen_is : history_of past.seen ≡ history_of past.call.start ++ history_of later
    seen_is = ap history_of timeline_is ∙ history_append past.call.start (moments.Invoked past.call.local.thread past.call.command ∷ later)

    own_items : (d : Entry) → part past.call.local.thread (history_of later) ≡ answer d ∷ []
    own_items d =
        let t : ℕ = past.call.local.thread in
        let then_part : part whole.thread (history_of past.seen) ≡ es ++ l.log = its_part l.config past whole is.told done_whole in
        let named : part t (history_of past.seen) ≡ es ++ l.log = ap (λ u. part u (history_of past.seen)) (sym is.thread) ∙ then_part in
        let cut : part t (history_of past.seen) ≡ part t (history_of past.call.start) ++ part t (history_of later) = ap (part t) seen_is ∙ part_append t (history_of past.call.start) (history_of later) in
        append_cancel_left es (part t (history_of later)) (answer d ∷ [])
        (ap (λ xs. xs ++ part t (history_of later)) (sym is.part) ∙ sym cut ∙ named ∙ ap (λ xs. es ++ xs) (log_is d))

    -- the worker, with the reply
    abbrev now_worker : WorkerState
    now_worker = worker_of id here []

    answers : (d : Entry) → HasAnswered (pending_of id here).worker past.call.command (answer d).reply now_worker
    answers d = record {
      asked = ap (λ cs. ks ++ cs) is.trace;
      entry = answer d;
      told = ap (λ xs. es ++ xs) (log_is d);
      command = command_is d;
      reply = refl;
      start = history_of past.call.start;
      before = history_start past.call.seen past.call.start is.before;
      noted = is.noted;
      items = history_of later;
      seen = seen_is;
      own = own_items d;
      notes = refl;
      past = past.call.start;
      later = later;
      timeline = timeline_is;
      began = is.before;
      started = refl;
      sound = sound_of id here [] is.told done_whole;
    }

    -- what becomes of the command's value
    worker_is : worker_of id (held_of l me.0.threads) me.0.notes ≡ now_worker
    worker_is = λ i. worker_of id (here_is i) (notes_are me here [] is.knows i)

    -- the one entry
    first_of : (xs : List Entry) → length xs ≡ 1 → Entry
    first_of [] e = absurd (omega arith)
    first_of (x ∷ xs) e = x

    answered : (a : Reply) → ((d : Entry) → a ≡ (answer d).reply) → (old : PendingState) (new : WorkerState) → pending_of id (held_of l me.0.threads) ≡ old → new ≡ worker_of id (held_of l me.0.threads) me.0.notes → HasAnswered old.worker old.command a new
    answered a reply old new was becomes =
        let d : Entry = first_of l.log one_entry in
        subst (λ (x : PendingState). HasAnswered x.worker x.command a new) (ap (pending_of id) (sym here_is) ∙ was)
        (subst (λ x. HasAnswered (pending_of id here).worker past.call.command a x) (sym (becomes ∙ worker_is))
        (subst (λ x. HasAnswered (pending_of id here).worker past.call.command x now_worker) (sym (reply d)) (answers d)))

    in_time : (old : PendingState) (new : WorkerState) → pending_of id (held_of l me.0.threads) ≡ old → new ≡ worker_of id (held_of l me.0.threads) me.0.notes → IsInTime old.worker.thread.config old.command new.span
    in_time old new was becomes =
        subst (λ (x : PendingState). IsInTime x.worker.thread.config x.command new.span) (ap (pending_of id) (sym here_is) ∙ was)
        (subst (λ (x : WorkerState). IsInTime past.call.local.config past.call.command x.span) (sym (becomes ∙ worker_is))
        (subst (λ x. IsInTime x past.call.command past.span) is.config is.few))

    same_worker : (old : PendingState) (new : WorkerState) → pending_of id (held_of l me.0.threads) ≡ old → new ≡ worker_of id (held_of l me.0.threads) me.0.notes → IsSame old.worker new
    same_worker old new was becomes =
        subst (λ (x : PendingState). IsSame x.worker new) (ap (pending_of id) (sym here_is) ∙ was)
        (subst (λ x. IsSame (pending_of id here).worker x) (sym (becomes ∙ worker_is)) (record { heap = refl; config = is.config; thread = is.thread }))

-- A pending command, before some of its events and after them.
pub record Events (port : Port) (l : LocalState) (n o : ℕ) (after : Port) (z : LocalState) :
    Type 0 where
  pub is : IsPending port.seat.me port.seat.table_id l n o
  pub shared : TableId
  pub same : port.seat.table_id ≡ shared
  pub has : HasThread after.seat.me after.seat.table_id shared z
  pub words : List ℕ
  pub on : HasGoneOn port.seat.me l words after.seat.me z

-- the worker of a port and its thread
abbrev pub worker_at : Port → LocalState → WorkerState
worker_at p l = worker_of p.seat.table_id (held_of l p.seat.me.0.threads) p.seat.me.0.notes

-- a command that has ended, at this thread and worker
pub record HasEnded (old : PendingState) (l : LocalState) (new : WorkerState) : Type 0 where
  pub is_same : IsSame old.worker new
  pub has_answered : (a : Reply) → ((d : Entry) → a ≡ (get_or l.log 0 d).reply)
      → HasAnswered old.worker old.command a new
  pub is_in_time : IsInTime old.worker.thread.config old.command new.span

module _ {port : Port} {l : LocalState} {n o : ℕ} {after : Port} {z : LocalState}
    (e : Events port l n o after z) where
  pub pending_now : IsPending after.seat.me after.seat.table_id z n o
  pending_now = pending_then port.seat.me port.seat.table_id l n o e.is e.shared e.same
      after.seat.me after.seat.table_id z e.has e.words e.on

  -- of a command that had this value
  module _ (old : PendingState)
      (was : pending_of port.seat.table_id (held_of l port.seat.me.0.threads) ≡ old) where
    pub still_pending : (most : ℕ) → length e.words ≤ most → GoesFar most l e.words z
        → is_done z ≡ false
        → IsStillPending old most (pending_of after.seat.table_id (held_of z after.seat.me.0.threads))
    still_pending most few far going = still port.seat.me port.seat.table_id l n o e.is e.shared
        e.same after.seat.me after.seat.table_id z e.has e.words e.on most few far going old
        (pending_of after.seat.table_id (held_of z after.seat.me.0.threads)) was refl

    pub made_more : (most : ℕ) → length e.words ≤ most → GoesFar most l e.words z
        → MadeMore old most (worker_at after z).thread (worker_at after z).span.own
    made_more most few far = made_then port.seat.me port.seat.table_id l n o e.is e.shared e.same
        after.seat.me after.seat.table_id z e.has e.words e.on most few far old
        (worker_at after z) was refl

  pub made_whole : (old : WorkerState) (k : Command)
      → pending_of port.seat.table_id (held_of l port.seat.me.0.threads) ≡ start_pending old k
      → HasMade old k (worker_at after z)
  made_whole old k was = made_all port.seat.me port.seat.table_id l n o e.is e.shared e.same
      after.seat.me after.seat.table_id z e.has e.words e.on old
      (worker_at after z) k was refl

  module _ (done : is_done z ≡ true) where
    pub entry_now : length z.log ≡ 1
    entry_now = one_entry after.seat.me after.seat.table_id z n o pending_now done

    pub kept_now : IsMirrored after.seat.me after.seat.table_id z n o
    kept_now = kept_then after.seat.me after.seat.table_id z n o pending_now done

    pub ended : (old : PendingState)
        → pending_of port.seat.table_id (held_of l port.seat.me.0.threads) ≡ old
        → HasEnded old z (worker_at after z)
    ended old was =
        let value = value_then port.seat.me port.seat.table_id l n o e.is e.shared e.same
        after.seat.me after.seat.table_id z e.has e.words e.on old was in
        record {
          is_same = same_worker after.seat.me after.seat.table_id z n o pending_now done _ _ value refl;
          has_answered = λ a reply. answered after.seat.me after.seat.table_id z n o pending_now done a reply
              _ _ value refl;
          is_in_time = in_time after.seat.me after.seat.table_id z n o pending_now done _ _ value refl;
        }
