-- The workers of a table that running threads share, as contracts see them.
use Rattle.std.specs.Prelude.{ℕ, ◌<◌, ◌≡◌, ◌++◌, List, [], ◌∷◌, length, map, slice_index_or}
use Rattle.never_heap.specs.declared.Command.{Command}
use Rattle.never_heap.specs.declared.Entry.{Entry}
use Rattle.never_heap.specs.Histories.{HistoryItem, part}
use Rattle.shared_heap.specs.declared.rules.Moment.{Moment}
use Rattle.shared_heap.specs.declared.rules.Moment.TheVariants as moments
use Rattle.shared_heap.specs.Shared.{IsStartOf, history_of, invoked_in}
use Rattle.shared_heap.specs.Stamps as stamps
use Rattle.shared_heap.specs.Workers as heaps
use Rattle.shared_heap.specs.Workers.{AllStart, HasSeenIts, HeapState, IsSame, WorkerState}
use Rattle.live_tables.specs.rows.Life.{Executes, HasRoomFor}
use Rattle.live_tables.specs.rows.Rows.{Rows, IsRowHeap, answers_of, commands_of, replies}

-- A worker of a table: its worker of the heap, the operations that it did, and their answers. In
-- memory it has only its last command.
pub record RowWorkerState (Op Answer : Type 0) : Type 0 where
  pub worker : WorkerState
  pub done : List Op
  pub answers : List Answer

module _ {Op Answer : Type 0} where
  -- its worker of the heap
  abbrev pub heap_worker : RowWorkerState Op Answer → WorkerState
  heap_worker w = w.worker

  -- the thread of a worker
  abbrev pub thread_of : RowWorkerState Op Answer → ℕ
  thread_of w = w.worker.thread.thread

  -- how many threads its table has, and how many places
  abbrev pub threads_of : RowWorkerState Op Answer → ℕ
  threads_of w = w.worker.thread.config.threads

  abbrev pub places_of : RowWorkerState Op Answer → ℕ
  places_of w = w.worker.thread.config.shared

  -- a worker is of this table
  abbrev pub IsOf : HeapState → RowWorkerState Op Answer → Type 0
  IsOf t w = (w.worker.heap ≡ t.id) × (w.worker.thread.config ≡ t.config)

  -- the same worker, which has learned a note of this history
  abbrev pub has_learned : RowWorkerState Op Answer → List HistoryItem → RowWorkerState Op Answer
  has_learned w seen = record {
    worker = record w.worker { notes = w.worker.notes ++ seen ∷ [] };
    done = w.done;
    answers = w.answers;
  }

  -- these are all workers of this table, in thread order
  pub record AreInOrder (t : HeapState) (ws : List (RowWorkerState Op Answer)) : Type 0 where
    pub count : length ws ≡ t.config.threads
    pub each : (i : ℕ) (d : RowWorkerState Op Answer) → i < length ws
        → IsOf t (slice_index_or ws i d) × (thread_of (slice_index_or ws i d) ≡ i)

  -- one of these is of thread t
  abbrev pub HasWorker : ℕ → List (RowWorkerState Op Answer) → Type 0
  HasWorker t ws = (i : ℕ) × (i < length ws)
      × ((d : RowWorkerState Op Answer) → thread_of (slice_index_or ws i d) ≡ t)

  -- these are all workers of this table, each once, in any order
  pub record AreEachOnce (t : HeapState) (ws : List (RowWorkerState Op Answer)) : Type 0 where
    pub count : length ws ≡ t.config.threads
    pub own : (i : ℕ) (d : RowWorkerState Op Answer) → i < length ws → IsOf t (slice_index_or ws i d)
    pub each : (u : ℕ) → u < t.config.threads → HasWorker u ws

  -- It has done no operation, and its worker of the heap has executed no command, has seen the
  -- start of cycle 1, and has learned no note.
  pub record IsFresh (w : RowWorkerState Op Answer) : Type 0 where
    pub done : w.done ≡ []
    pub answers : w.answers ≡ []
    pub worker : heaps.IsFresh w.worker.thread.config w.worker

  abbrev pub AreFresh : List (RowWorkerState Op Answer) → Type 0
  AreFresh ws = (i : ℕ) (d : RowWorkerState Op Answer) → i < length ws → IsFresh (slice_index_or ws i d)

  -- The worker drew a stamp with this number, and executed nothing.
  pub record HasDrawn (old : RowWorkerState Op Answer) (n : ℕ) (new : RowWorkerState Op Answer) :
      Type 0 where
    pub drawn : stamps.HasDrawn old.worker n new.worker
    pub done : new.done ≡ old.done
    pub answers : new.answers ≡ old.answers

  -- the same worker of the same table
  abbrev pub IsSameWorker : RowWorkerState Op Answer → RowWorkerState Op Answer → Type 0
  IsSameWorker old new = IsSame old.worker new.worker

module _ {Op Row Answer S : Type 0} (a : Rows Op Row Answer S) where
  -- a worker of the heap has executed the commands of operations of the table, and no others
  pub record IsRowWorker (w : WorkerState) : Type 0 where
    pub heap : IsRowHeap a w.thread.config
    pub asked : w.thread.trace ≡ commands_of a (a.operations_of w.thread.thread w.thread.trace)
    pub inside : a.AreDone w.thread.config.shared w.thread.thread
        (a.operations_of w.thread.thread w.thread.trace)
    pub long : length w.thread.log ≡ length w.thread.trace

  -- the value of a worker in contracts
  abbrev pub row_worker : WorkerState → RowWorkerState Op Answer
  row_worker w = record {
    worker = w;
    done = a.operations_of w.thread.thread w.thread.trace;
    answers = answers_of a (a.operations_of w.thread.thread w.thread.trace) (replies w.thread.log);
  }

  -- the worker is between two operations
  pub record IsAtRest (w : RowWorkerState Op Answer) : Type 0 where
    pub between : IsRowWorker w.worker
    pub same : w ≡ row_worker w.worker

  -- the operation can come next
  abbrev pub IsNext : RowWorkerState Op Answer → Op → Type 0
  IsNext w op = a.CanBeNext (places_of w) (thread_of w) w.done op

  -- the worker's lifetime allows all commands of an operation
  abbrev pub HasLife : RowWorkerState Op Answer → Op → Type 0
  HasLife w op = HasRoomFor w.worker.thread (commands_of a (op ∷ []))

  -- it can do the operation
  abbrev pub CanDo : RowWorkerState Op Answer → Op → Type 0
  CanDo w op = IsNext w op × HasLife w op

  -- A worker's entries are its part of what it has seen, and their commands are those of its
  -- operations, which can be read off them.
  pub record HasSeenAll (w : RowWorkerState Op Answer) : Type 0 where
    pub its : part (thread_of w) w.worker.seen ≡ w.worker.thread.log
    pub rows : map (λ (e : Entry). e.command) w.worker.thread.log ≡ commands_of a w.done
    pub read : a.AreRead (thread_of w) w.done

  -- The worker has done one more operation, with this answer. What it had seen, and each note that
  -- it had learned, is a prefix of a history `start`, in which it did nothing more. That is a
  -- prefix of what it has seen now. It executed the commands of the operation, and did nothing
  -- else. What it has seen now is a history of the heap that never frees, with licensed fulls. The
  -- timeline that it has seen now has the invocation of the operation's first command directly
  -- after `past`, whose history is `start`. The timeline that it had seen is a prefix of `past`,
  -- which has the invocations of the commands of the worker's earlier operations and no others of
  -- it.
  pub record HasDone (old : RowWorkerState Op Answer) (op : Op) (answer : Answer)
      (new : RowWorkerState Op Answer) : Type 0 where
    pub done : new.done ≡ old.done ++ op ∷ []
    pub answers : new.answers ≡ old.answers ++ answer ∷ []
    pub start : List HistoryItem
    pub before : IsStartOf old.worker.seen start
    pub noted : AllStart old.worker.notes start
    pub own : part (thread_of old) start ≡ old.worker.thread.log
    pub on : IsStartOf start new.worker.seen
    pub notes : new.worker.notes ≡ []
    pub past : List Moment
    pub command : Command
    pub began : IsStartOf old.worker.timeline past
    pub started : start ≡ history_of past
    pub earlier : invoked_in (thread_of old) past ≡ old.worker.thread.trace
    pub invoked : IsStartOf (past ++ moments.Invoked (thread_of old) command ∷ [])
        new.worker.timeline
    pub sound : HasSeenIts new.worker
    pub executes : Executes old.worker (commands_of a (op ∷ [])) new.worker
    pub first : IsAtRest old
    pub last : IsAtRest new
    pub was : HasSeenAll old
    pub now : HasSeenAll new
