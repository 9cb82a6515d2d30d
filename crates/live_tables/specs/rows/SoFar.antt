-- What the workers of a table were answered so far, between any two steps of any threads.
use Rattle.std.specs.Prelude.{ℕ, ◌≤◌, ◌≡◌, ◌++◌, ◌⊎◌, List, [], ◌∷◌, length, slice_index_or, take}
use mathlib.Core.Option.{some}
use lib.ListN.{get_elem?}
use Rattle.atomic_table.specs.Table as table
use Rattle.block_store.specs.declared.Config.{Config}
use Rattle.rate_plan.specs.Rates.{IsRate}
use Rattle.never_heap.specs.declared.Command.{Command}
use Rattle.never_heap.specs.Histories.{HistoryItem}
use Rattle.never_heap.specs.Licensed.{NoFulls}
use Rattle.heap_system.specs.Locals.{LocalState}
use Rattle.heap_system.specs.Systems.{Whole}
use Rattle.control_heap.specs.Growth.{given}
use Rattle.array_tables.specs.operations.Linearizations.{Call, traces_of}
use Rattle.array_tables.specs.operations.RunPrefixes.{IsRunSoFar, IsLinearizationSoFar}
use Rattle.shared_heap.specs.declared.rules.ThreadView.{ThreadView}
use Rattle.shared_heap.specs.declared.rules.View.{View}
use Rattle.shared_heap.specs.declared.rules.Moment.{Moment}
use Rattle.shared_heap.specs.RealTime.{IsSeatOf, HadSeen}
use Rattle.shared_heap.specs.Shared.{AllSeenIn, AllNotedIn, IsWellFormed, SharedKept, history_of, invoked_in}
use Rattle.shared_heap.specs.Turns.{MadeTurns}
use Rattle.shared_heap.specs.Workers.{WorkerState}
use Rattle.live_tables.specs.rows.Life.{Executes}
use Rattle.live_tables.specs.rows.Behind.{answers_in, operations_in}
use Rattle.live_tables.specs.rows.RealTime.{AreComplete, ComeBefore, KeepsRealTime}
use Rattle.live_tables.specs.rows.Rows.{Rows, commands_of}
use Rattle.live_tables.specs.rows.Workers.{HasDone, IsNext, IsRowWorker, RowWorkerState, row_worker, thread_of}

abbrev pub AllThreads : (LocalState → Type 0) → List ThreadView → Type 0
AllThreads P [] = Unit {0}
AllThreads P (h ∷ hs) = P h.local × AllThreads P hs

-- the timeline has the invocations of a thread's commands
abbrev pub HaveInvoked : List Moment → LocalState → Type 0
HaveInvoked timeline l = invoked_in l.thread timeline ≡ l.trace

-- the threads of all seats
abbrev pub AllSeats : (LocalState → Type 0) → table.State Command View → Type 0
AllSeats P s =
    (id : ℕ) (v : View) → get_elem? s.views id ≡ some v → AllThreads P v.threads

-- A moment of a worker's thread, while the worker executes these commands: before one of them, or
-- with some of its events made, or after the last.
abbrev pub IsMomentOf : (ks : List Command) (old new : WorkerState) → Executes old ks new
    → LocalState → Type 0
IsMomentOf [] old new is l = l ≡ old.thread
IsMomentOf (k ∷ ks) old new is l =
    (l ≡ old.thread)
    ⊎ ((n : ℕ) × MadeTurns (given k old.thread) (take n is.3.words) l)
    ⊎ IsMomentOf ks is.0 new is.4 l

-- the calls of the worker's thread in this order are the operations that it did, with their answers
pub record HasCalls {Op Answer : Type 0} (order : List (Call Op Answer))
    (w : RowWorkerState Op Answer) : Type 0 where
  pub done : operations_in (thread_of w) order ≡ w.done
  pub answers : answers_in (thread_of w) order ≡ w.answers

module _ {Op Row Answer S : Type 0} (a : Rows Op Row Answer S) where
  -- The commands of the thread are the first ones of its script. It may be in the middle of an
  -- operation.
  abbrev pub IsAt : List (List Op) → LocalState → Type 0
  IsAt scripts l = (rest : List Command)
      × (commands_of a (slice_index_or scripts l.thread []) ≡ l.trace ++ rest)

  -- the threads of all seats execute these scripts, whose operations are those of the table
  pub record Execute (c : Config) (s : table.State Command View) (scripts : List (List Op)) : Type 0
    where
      pub count : length scripts ≡ c.threads
      pub inside : (t : ℕ) → a.AreDone c.shared t (slice_index_or scripts t [])
      pub each : AllSeats (IsAt scripts) s

  -- the thread is that of a worker between two operations
  abbrev pub IsBetween : LocalState → Type 0
  IsBetween l = (w : WorkerState) × (w.thread ≡ l) × IsRowWorker a w

  -- The thread is that of a worker which was between two operations, and which was given the first
  -- commands of an operation that could come next.
  pub record IsWithin (l : LocalState) : Type 0 where
    pub worker : WorkerState
    pub between : IsRowWorker a worker
    pub operation : Op
    pub next : IsNext a (row_worker a worker) operation
    pub thread : l.thread ≡ worker.thread.thread
    pub config : l.config ≡ worker.thread.config
    pub given : List Command
    pub left : List Command
    pub trace : l.trace ≡ worker.thread.trace ++ given
    pub commands : commands_of a (operation ∷ []) ≡ given ++ left

  -- the thread is that of a worker between two operations or in the middle of one
  abbrev pub IsWorking : LocalState → Type 0
  IsWorking l = IsBetween l ⊎ IsWithin l

  -- at each moment of an operation its worker's thread is between two operations or in the middle
  -- of one
  abbrev pub WorkAllAlong : Type 0
  WorkAllAlong =
      (old new : RowWorkerState Op Answer) (op : Op) (answer : Answer)
      (did : HasDone a old op answer new) → IsNext a old op → (l : LocalState)
      → IsMomentOf (commands_of a (op ∷ [])) old.worker new.worker did.executes l → IsWorking l

  -- each worker between two operations that has one of these threads
  abbrev pub AllHaveCalls : List (Call Op Answer) → List ThreadView → Type 0
  AllHaveCalls order [] = Unit {0}
  AllHaveCalls order (h ∷ hs) =
      ((w : WorkerState) → w.thread ≡ h.local → IsRowWorker a w → HasCalls order (row_worker a w))
      × AllHaveCalls order hs

  -- The history is a run of the first commands of the scripts, with no allocation answered full.
  -- Its operations so far have one order, in which each was answered as by a plain table. The calls
  -- of each worker between two operations are those that it did, with the answers that it got. It
  -- is the history of a well-formed timeline, of which what the threads have seen, and every note,
  -- is a prefix. The timeline has the invocations of all commands, and the order keeps its
  -- real-time order.
  pub record FitsOneOrder (c : Config) (s : table.State Command View) (scripts : List (List Op))
      (history : List HistoryItem) : Type 0 where
    pub timeline : List Moment
    pub order : List (Call Op Answer)
    pub rate : ℕ
    pub planned : IsRate c rate
    pub run : IsRunSoFar c rate (traces_of a.rows_of a.command_at scripts) history
    pub linear : IsLinearizationSoFar a.rows_of a.decides a.ends a.say a.act (a.empty c.shared)
        scripts history order
    pub none_full : NoFulls history
    pub each : (id : ℕ) (v : View) → get_elem? s.views id ≡ some v
        → AllHaveCalls order v.threads × AllSeenIn timeline v.threads
        × AllNotedIn timeline v.notes × AllThreads (HaveInvoked timeline) v.threads
    pub ordered : history ≡ history_of timeline
    pub formed : IsWellFormed timeline
    pub real_time : KeepsRealTime a scripts timeline order

  -- Real-time order of operations, in two states of one table, the first of which keeps the rule.
  -- The operations that are complete in what a worker had seen in the first come, in the order of
  -- the second, before all operations of a thread but its first m, if the commands that the thread
  -- had in the first state are at most those of its first m operations.
  abbrev pub SeenComesBeforeLater : Type 0
  SeenComesBeforeLater =
      (k : Whole) (s later : table.State Command View) (now : SharedKept k s) (p : List Moment)
      → HadSeen s p → HadSeen later p → (h : ThreadView) → IsSeatOf s h
      → (scripts : List (List Op)) (history : List HistoryItem)
      (fits : FitsOneOrder k.config later scripts history) (t n m : ℕ)
      → AreComplete a scripts p t n
      → length h.local.trace
      ≤ length (commands_of a (take m (slice_index_or scripts h.local.thread [])))
      → ComeBefore scripts fits.order t n h.local.thread m
