-- The one order of all operations of a closed table.
use Rattle.std.specs.Prelude.{ℕ, ◌<◌, ◌≤◌, ◌≡◌, ◌-◌, ◌*◌, ◌^◌, ◌++◌, ◌∷◌, ◌⊎◌, List, [], length, map, slice_index_or}
use Rattle.block_store.specs.declared.Config.{Config}
use Rattle.rate_plan.specs.Rates.{IsRate}
use Rattle.never_heap.specs.Histories.{HistoryItem, starts_in, work_in}
use Rattle.never_heap.specs.Licensed.{NoFulls}
use Rattle.never_heap.specs.Runs.{IsRun}
use Rattle.array_tables.specs.operations.Linearizations.{Call, IsLinearization, traces_of}
use Rattle.shared_heap.specs.declared.rules.Moment.{Moment}
use Rattle.shared_heap.specs.declared.rules.Moment.TheVariants as moments
use Rattle.shared_heap.specs.Shared.{IsWellFormed, IsStartOf, history_of, invoked_in, stamps_in}
use Rattle.shared_heap.specs.Workers.{HasSeenIts, IsOfMachine}
use Rattle.live_tables.specs.rows.Behind.{StandsBehind, answers_in}
use Rattle.live_tables.specs.rows.RealTime.{KeepsRealTime}
use Rattle.live_tables.specs.rows.Rows.{Rows}
use Rattle.live_tables.specs.rows.Workers.{HasDone, HasDrawn, HasSeenAll, RowWorkerState, heap_worker, thread_of}

-- This is the worker of thread t. It did the operations of the thread's script, and its answers are
-- those of the thread's calls in the order. The timeline has the invocations of its commands. What
-- it has seen is a prefix of the timeline and of the history.
pub record HasScript {Op Answer : Type 0} (scripts : List (List Op)) (timeline : List Moment)
    (history : List HistoryItem) (order : List (Call Op Answer)) (t : ℕ)
    (w : RowWorkerState Op Answer) : Type 0 where
  pub thread : thread_of w ≡ t
  pub script : w.done ≡ slice_index_or scripts t []
  pub answers : w.answers ≡ answers_in t order
  pub invoked : invoked_in t timeline ≡ w.worker.thread.trace
  pub on_timeline : IsStartOf w.worker.timeline timeline
  pub seen : IsStartOf w.worker.seen history

-- There is a history of the job of some scripts, with a linearization and with no allocation that
-- was answered full. Each worker did the operations of one script, in its order. Its answers are
-- those of a plain table in the order of the linearization. The number of cycles is that of the
-- history, whose units of work are within the bounds of so many cycles, and which is that of a run
-- of the machine. It is the history of a well-formed timeline that has the invocations of all
-- commands, and the order keeps the real-time order of that timeline.
pub record HaveOneOrder {Op Row Answer S : Type 0} (a : Rows Op Row Answer S) (c : Config)
    (ws : List (RowWorkerState Op Answer)) (cycles : ℕ) : Type 0 where
  pub scripts : List (List Op)
  pub timeline : List Moment
  pub history : List HistoryItem
  pub order : List (Call Op Answer)
  pub count : length scripts ≡ c.threads
  pub read : (t : ℕ) → a.AreRead t (slice_index_or scripts t [])
  pub rate : ℕ
  pub planned : IsRate c rate
  pub run : IsRun c rate (traces_of a.rows_of a.command_at scripts) history
  pub linear : IsLinearization a.rows_of a.decides a.ends a.say a.act (a.empty c.shared) scripts
      history order
  pub none_full : NoFulls history
  pub each : (t : ℕ) → t < c.threads → (j : ℕ) × (j < length ws)
      × ((d : RowWorkerState Op Answer)
      → HasScript scripts timeline history order t (slice_index_or ws j d))
  pub ordered : history ≡ history_of timeline
  pub formed : IsWellFormed timeline
  pub real_time : KeepsRealTime a scripts timeline order
  pub starts : cycles ≡ starts_in history
  pub least_units : (cycles - 1) * c.blocks ≤ work_in history
  pub most_units : work_in history ≤ 2 * c.blocks * cycles
  pub machine : IsOfMachine c (map heap_worker ws) history

-- In the order of a closed table, an operation comes after all operations that another worker had
-- done, if what that one had seen is a prefix of the history at which the operation began.
module _ {Op Row Answer S : Type 0} (a : Rows Op Row Answer S) where
  abbrev pub StandBehindWhatWasSeen : Type 0
  StandBehindWhatWasSeen =
      (c : Config) (ws : List (RowWorkerState Op Answer)) (cycles : ℕ)
      (is : HaveOneOrder a c ws cycles) (old new other : RowWorkerState Op Answer) (op : Op)
      (answer : Answer) (did : HasDone a old op answer new) → HasSeenAll a other
      → IsStartOf other.worker.seen did.start → IsStartOf new.worker.seen is.history
      → StandsBehind is.order (thread_of other) other.done (thread_of old) old.done

  -- An operation of a closed table that began after all that some worker had seen comes, in the
  -- order, after all operations that that worker had done.
  abbrev pub OperationsComeAfter : Type 0
  OperationsComeAfter =
      (c : Config) (ws : List (RowWorkerState Op Answer)) (cycles : ℕ)
      (is : HaveOneOrder a c ws cycles) (v x y : RowWorkerState Op Answer) (op : Op)
      (answer : Answer) (did : HasDone a x op answer y) → HasSeenIts v.worker → HasSeenAll a v
      → IsStartOf y.worker.timeline is.timeline → IsStartOf v.worker.timeline did.past
      → StandsBehind is.order (thread_of v) v.done (thread_of x) x.done

  -- Of two operations of a closed table, either the second began after all that the worker of the
  -- first had seen when the first returned, or the invocation of its first command is in what that
  -- worker had seen then, so that it began before the first returned.
  abbrev pub OperationsAreInOrder : Type 0
  OperationsAreInOrder =
      (c : Config) (ws : List (RowWorkerState Op Answer)) (cycles : ℕ)
      (is : HaveOneOrder a c ws cycles) (u v x y : RowWorkerState Op Answer) (op next : Op)
      (answer told : Answer) (first : HasDone a u op answer v) (second : HasDone a x next told y)
      → IsStartOf v.worker.timeline is.timeline → IsStartOf y.worker.timeline is.timeline
      → IsStartOf v.worker.timeline second.past
      ⊎ IsStartOf (second.past ++ moments.Invoked (thread_of x) second.command ∷ [])
      v.worker.timeline

  -- A worker drew a stamp that is no less than another's. Each operation that began after its stamp
  -- comes after all operations that the other had done at its own. Or 2^64 stamps were drawn. Each
  -- later operation of the worker that drew the stamp is such a one, as `HasDone` says (`began`).
  abbrev pub OperationsComeAfterStamps : Type 0
  OperationsComeAfterStamps =
      (c : Config) (ws : List (RowWorkerState Op Answer)) (cycles : ℕ)
      (is : HaveOneOrder a c ws cycles) (u v x y w z : RowWorkerState Op Answer) (n m : ℕ) (op : Op)
      (answer : Answer) → HasDrawn u n v → HasSeenAll a v → HasDrawn x m y → n ≤ m
      → (did : HasDone a w op answer z) → IsStartOf y.worker.timeline did.past
      → IsStartOf v.worker.timeline is.timeline → IsStartOf z.worker.timeline is.timeline
      → StandsBehind is.order (thread_of v) v.done (thread_of w) w.done
      ⊎ (2 ^ 64 ≤ stamps_in is.timeline)
