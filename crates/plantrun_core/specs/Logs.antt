-- What the threads of a plant did, and when.
use Rattle.std.specs.Prelude.{ℕ, ◌≡◌, ◌++◌, List, [], ◌∷◌, map}
use Rattle.array_tables.specs.operations.Linearizations.{Call}
use Rattle.array_tables.specs.declared.tag_table.operation.Operation.{Operation}
use Rattle.array_tables.specs.tag_table.Tables.{Tag}
use Rattle.never_heap.specs.Histories.{HistoryItem}
use Rattle.shared_heap.specs.declared.rules.Moment.{Moment}
use Rattle.shared_heap.specs.Shared.{IsStartOf}
use Rattle.shared_heap.specs.Workers.{HasSeenIts, HeapState}
use Rattle.live_tables.specs.rows.Stamped.{IsStampAfter}
use Rattle.live_tables.specs.tags.Live.{HasDone, TagWorkerState, opened_config, tags}
use Rattle.live_tables.specs.rows.Workers.{HasDrawn, HasSeenAll, IsOf, thread_of}
use Rattle.plantrun_core.specs.declared.calls.Done.{Done}
use Rattle.plantrun_core.specs.declared.calls.Step.{Step}
use Rattle.plantrun_core.specs.declared.hand.Hand.{Hand}

abbrev pub operation_of : Done → Operation
operation_of d = d.operation

abbrev pub answer_of : Done → Tag
answer_of d = d.answer

abbrev pub stamp_of : Step → ℕ
stamp_of s = s.done.stamp

abbrev pub call_by : ℕ → Done → Call Operation Tag
call_by t d = record { thread = t; operation = d.operation; answer = d.answer }

abbrev pub step_by : ℕ → Done → Step
step_by t d = record { thread = t; done = d }

-- Each operation of the log was done, after these, when its stamp was drawn, and no later one of
-- its thread had begun.
abbrev pub AllStamped : List Moment → ℕ → List Operation → List Done → Type 0
AllStamped timeline t before [] = Unit {0}
AllStamped timeline t before (d ∷ log) =
    IsStampAfter tags timeline t (before ++ d.operation ∷ []) d.stamp
    × AllStamped timeline t (before ++ d.operation ∷ []) log

-- the log has all that the worker did, with its answers, and a stamp after each
pub record IsLog (w : TagWorkerState) (log : List Done) : Type 0 where
  pub operations : w.done ≡ map operation_of log
  pub answers : w.answers ≡ map answer_of log
  pub stamped : AllStamped w.worker.timeline (thread_of w) [] log
  pub sound : HasSeenIts w.worker
  pub seen : HasSeenAll tags w

-- ---- within a thread

-- a worker of the table of a plant
abbrev pub IsOfPlant : HeapState → TagWorkerState → Type 0
IsOfPlant table w = IsOf table w × (table.config ≡ opened_config 4 48)

-- a worker of the table of a plant, with its log
pub record IsHandOf (table : HeapState) (h : Hand) : Type 0 where
  pub of : IsOfPlant table h.who
  pub log : IsLog h.who h.calls.items

-- the worker did this operation, and then drew its stamp
pub record HasAsked (old : TagWorkerState) (d : Done) (new : TagWorkerState) : Type 0 where
  pub between : TagWorkerState
  pub did : HasDone old d.operation d.answer between
  pub drew : HasDrawn between d.stamp new
  pub seen : HasSeenAll tags new

-- the worker did an operation, and perhaps others since
pub record HasGoneOn (old new : TagWorkerState) : Type 0 where
  pub operation : Operation
  pub answer : Tag
  pub next : TagWorkerState
  pub did : HasDone old operation answer next
  pub later : IsStartOf next.worker.seen new.worker.seen

-- The worker had done these operations, and began its next one after all of this history.
pub record BeganAfter (seen : List HistoryItem) (ops : List Operation) (w : TagWorkerState)
    : Type 0 where
  pub old : TagWorkerState
  pub thread : thread_of w ≡ thread_of old
  pub done : old.done ≡ ops
  pub on : HasGoneOn old w
  pub after : IsStartOf seen on.did.start

-- a log that has one operation more, with this answer
abbrev pub HasLogged : Operation → Tag → List Done → List Done → Type 0
HasLogged op tag old new =
    (stamp : ℕ) × (new ≡ old ++ record { operation = op; answer = tag; stamp = stamp } ∷ [])
