-- The log of a worker of a plant.
use Rattle.std.proofs.Common.{◌≡◌, ℕ, ◌<◌, ◌^◌, List, [], ◌∷◌, ◌++◌, length, map, append_assoc, refl, sym, ap, ◌∙◌, subst, arith}
use Rattle.std.proofs.lemmas.List.{length-map, map-append}
use Rattle.block_store.specs.declared.Config.{Config}
use Rattle.array_tables.specs.declared.tag_table.operation.Operation.{Operation}
use Rattle.array_tables.specs.tag_table.Tables.{Tag}
use Rattle.never_heap.specs.Histories.{HistoryItem}
use Rattle.shared_heap.specs.declared.rules.Moment.{Moment}
use Rattle.shared_heap.specs.declared.rules.Moment.TheVariants as moments
use Rattle.shared_heap.specs.Shared.{IsStartOf, history_of}
use Rattle.shared_heap.specs.Workers.{AllStart, CanOpen, HeapState}
use Rattle.shared_heap.proofs.Lemmas.{drawn_same, history_start, starts_on}
use Rattle.live_tables.specs.rows.Rows.{IsRowHeap}
use Rattle.live_tables.specs.rows.Stamped.{IsStampAfter}
use Rattle.live_tables.specs.tags.Live.{HasLife, TagWorkerState, opened_config, tags}
use Rattle.live_tables.specs.rows.Workers.{HasDrawn, HasSeenAll, IsFresh, IsSameWorker, has_learned, places_of, thread_of}
use Rattle.live_tables.proofs.rows.Stamped.{stamp_after, stamp_later}
use Rattle.plantrun_core.proofs.SameWorker.{of_same}
use Rattle.live_tables.proofs.tags.FewOperations.{few_leave_life}
use Rattle.live_tables.proofs.tags.Opening.{can_open}
use Rattle.plantrun_core.specs.declared.calls.Done.{Done}
use Rattle.plantrun_core.specs.declared.hand.Hand.{Hand}
use Rattle.plantrun_core.specs.PlantWorkers.{IsHandAt, IsWorker}
use Rattle.plantrun_core.specs.Logs.{AllStamped, BeganAfter, HasAsked, HasGoneOn, IsHandOf, IsLog, IsOfPlant, answer_of, operation_of}

pub plant_same : (t : HeapState) (a b : TagWorkerState) → IsOfPlant t a → IsSameWorker a b
    → IsOfPlant t b
plant_same t a b is same = (of_same t a b is.0 same, is.1)

pub places_in : (t : HeapState) (w : TagWorkerState) → IsOfPlant t w → places_of w ≡ 48
places_in t w is = ap (λ (c : Config). c.shared) (is.0.1 ∙ is.1)

opened : IsRowHeap tags (opened_config 4 48)
opened = refl

-- a worker with a log that is not too long has life left
pub has_life : (t : HeapState) (w : TagWorkerState) (log : List Done) (op : Operation)
    → IsOfPlant t w → IsLog w log → length log < 2 ^ 24 → HasLife w op
has_life t w log op is log_is few =
    let config : w.worker.thread.config ≡ opened_config 4 48 = is.0.1 ∙ is.1 in
    few_leave_life w op log_is.sound log_is.seen
    (subst (IsRowHeap tags) (sym config) opened)
    (subst CanOpen (sym config)
    (can_open 48 4 record { few_tags = omega arith; some_thread = omega arith; few_threads = omega arith }))
    (omega (arith, ap length log_is.operations, length-map log operation_of, few))

pub hand_same : (t : HeapState) (a b : Hand) → IsHandOf t a → b.who ≡ a.who → b.calls ≡ a.calls
    → IsHandOf t b
hand_same t a b is who calls = record {
  of = subst (IsOfPlant t) (sym who) is.of;
  log = subst (λ (w : TagWorkerState). IsLog w b.calls.items) (sym who)
      (subst (λ v. IsLog a.who v.items) (sym calls) is.log);
}

-- a worker that has drawn its first stamp has an empty log
pub first_log : (old new : TagWorkerState) (n : ℕ) → IsFresh old → HasDrawn old n new
    → HasSeenAll tags new → IsLog new []
first_log old new n fresh drew all = record {
  operations = drew.done ∙ fresh.done;
  answers = drew.answers ∙ fresh.answers;
  stamped = tt;
  sound = drew.drawn.sound;
  seen = all;
}

-- and is of its table
pub first_hand : (table : HeapState) (t n : ℕ) (old : TagWorkerState) (h : Hand)
    → table.config ≡ opened_config 4 48 → IsWorker table t old → IsFresh old
    → HasDrawn old n h.who → HasSeenAll tags h.who → h.calls.items ≡ [] → IsHandAt table t h
first_hand table t n old h config is fresh drew all none =
    let same : IsSameWorker old h.who = drawn_same old.worker h.who.worker n drew.drawn in (
      record {
        of = plant_same table old h.who (is.0, config) same;
        log = subst (IsLog h.who) (sym none) (first_log old h.who n fresh drew all);
      },
      same.thread ∙ is.1,
    )

stamps_later : (timeline more : List Moment) (t : ℕ) (before : List Operation) (log : List Done)
    → IsStartOf timeline more → AllStamped timeline t before log → AllStamped more t before log
stamps_later timeline more t before [] on all = tt
stamps_later timeline more t before (d ∷ log) on all = (
  stamp_later tags timeline more t (before ++ d.operation ∷ []) d.stamp all.0 on,
  stamps_later timeline more t (before ++ d.operation ∷ []) log on all.1,
)

stamps_more : (timeline : List Moment) (t : ℕ) (before : List Operation) (log : List Done)
    (d : Done) → AllStamped timeline t before log
    → IsStampAfter tags timeline t (before ++ map operation_of (log ++ d ∷ [])) d.stamp
    → AllStamped timeline t before (log ++ d ∷ [])
stamps_more timeline t before [] d all one = (one, tt)
stamps_more timeline t before (x ∷ log) d all one = (
  all.0,
  stamps_more timeline t (before ++ x.operation ∷ []) log d all.1
      (subst (λ (ops : List Operation). IsStampAfter tags timeline t ops d.stamp)
      (sym (append_assoc before (x.operation ∷ []) (map operation_of (log ++ d ∷ [])))) one),
)

drawn_on : (old new : TagWorkerState) (n : ℕ) → HasDrawn old n new
    → IsStartOf old.worker.timeline new.worker.timeline
drawn_on old new n drew =
    starts_on old.worker.timeline drew.drawn.past new.worker.timeline drew.drawn.before
    (moments.Stamped ∷ [], drew.drawn.timeline)

-- the log of a worker that did one operation more, and drew a stamp
pub log_more : (old new : TagWorkerState) (log : List Done) (d : Done) → IsLog old log
    → HasAsked old d new → IsSameWorker old new → IsLog new (log ++ d ∷ [])
log_more old new log d is asked same =
    let mid = asked.between in
    let did = asked.did in
    let drew = asked.drew.drawn in
    let ops : new.done ≡ map operation_of (log ++ d ∷ []) =
    asked.drew.done ∙ did.done ∙ ap (λ (l : List Operation). l ++ d.operation ∷ []) is.operations
    ∙ sym (map-append operation_of log (d ∷ [])) in
    let to_mid : IsStartOf old.worker.timeline mid.worker.timeline =
    starts_on old.worker.timeline did.past mid.worker.timeline did.began (
      moments.Invoked (thread_of old) did.command ∷ did.invoked.0,
      did.invoked.1
          ∙ append_assoc did.past (moments.Invoked (thread_of old) did.command ∷ []) did.invoked.0,
    ) in
    let to_new = drawn_on mid new d.stamp asked.drew in
    let on = starts_on old.worker.timeline mid.worker.timeline new.worker.timeline to_mid to_new in
    record {
      operations = ops;
      answers = asked.drew.answers ∙ did.answers
          ∙ ap (λ (l : List Tag). l ++ d.answer ∷ []) is.answers
          ∙ sym (map-append answer_of log (d ∷ []));
      stamped = subst (λ (t : ℕ). AllStamped new.worker.timeline t [] (log ++ d ∷ []))
          (sym same.thread)
          (stamps_more new.worker.timeline (thread_of old) [] log d
          (stamps_later old.worker.timeline new.worker.timeline (thread_of old) [] log on is.stamped)
          (subst (λ (t : ℕ). IsStampAfter tags new.worker.timeline t (map operation_of (log ++ d ∷ [])) d.stamp)
          same.thread
          (subst (λ (l : List Operation). IsStampAfter tags new.worker.timeline (thread_of new) l d.stamp)
          ops (stamp_after tags mid new d.stamp asked.drew asked.seen))));
      sound = drew.sound;
      seen = asked.seen;
    }

-- ---- a worker goes on

pub went_on : (old new : TagWorkerState) (d : Done) → HasAsked old d new → HasGoneOn old new
went_on old new d is =
    let mid = is.between in
    record {
      operation = d.operation;
      answer = d.answer;
      next = mid;
      did = is.did;
      later = subst (λ h. IsStartOf h new.worker.seen) (sym is.did.sound.ordered)
          (subst (λ h. IsStartOf (history_of mid.worker.timeline) h) (sym is.drew.drawn.sound.ordered)
          (history_start mid.worker.timeline new.worker.timeline (drawn_on mid new d.stamp is.drew)));
    }

pub went_further : (a b c : TagWorkerState) → HasGoneOn a b → HasGoneOn b c → HasGoneOn a c
went_further a b c f g =
    let start = g.did.start in
    let on = starts_on b.worker.seen start c.worker.seen g.did.before
    (starts_on start g.next.worker.seen c.worker.seen g.did.on g.later) in
    record {
      operation = f.operation;
      answer = f.answer;
      next = f.next;
      did = f.did;
      later = starts_on f.next.worker.seen b.worker.seen c.worker.seen f.later on;
    }

-- ---- a worker that has learned a note

pub learned_same : (w : TagWorkerState) (seen : List HistoryItem)
    → IsSameWorker w (has_learned w seen)
learned_same w seen = record { heap = refl; config = refl; thread = refl }

learned_log : (w : TagWorkerState) (seen : List HistoryItem) (log : List Done) → IsLog w log
    → IsLog (has_learned w seen) log
learned_log w seen log is =
    let s = is.sound in
    record {
      operations = is.operations;
      answers = is.answers;
      stamped = is.stamped;
      sound = record {
        legal = s.legal;
        licensed = s.licensed;
        right = s.right;
        its = s.its;
        asked = s.asked;
        ordered = s.ordered;
        invoked = s.invoked;
        formed = s.formed;
      };
      seen = record { its = is.seen.its; rows = is.seen.rows; read = is.seen.read };
    }

pub learned_hand : (t : HeapState) (old new : Hand) (seen : List HistoryItem) → IsHandOf t old
    → new.who ≡ has_learned old.who seen → new.calls ≡ old.calls → IsHandOf t new
learned_hand t old new seen is who calls =
    let w : TagWorkerState = has_learned old.who seen in
    record {
      of = subst (IsOfPlant t) (sym who) (plant_same t old.who w is.of (learned_same old.who seen));
      log = subst (λ (u : TagWorkerState). IsLog u new.calls.items) (sym who)
          (subst (λ v. IsLog w v.items) (sym calls) (learned_log old.who seen old.calls.items is.log));
    }

last_starts : (ns : List (List HistoryItem)) (seen start : List HistoryItem)
    → AllStart (ns ++ seen ∷ []) start → IsStartOf seen start
last_starts [] seen start all = all.0
last_starts (n ∷ ns) seen start all = last_starts ns seen start all.1

-- what it does next begins after what the note covers
pub began_after : (seen : List HistoryItem) (w new : TagWorkerState) (ops : List Operation)
    → w.done ≡ ops → IsSameWorker w new → HasGoneOn (has_learned w seen) new
    → BeganAfter seen ops new
began_after seen w new ops done same on = record {
  old = has_learned w seen;
  thread = same.thread;
  done = done;
  on = on;
  after = last_starts w.worker.notes seen on.did.start on.did.noted;
}
