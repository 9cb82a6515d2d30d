-- A heap that several threads share, and its workers, as contracts see them.
use Rattle.std.specs.Prelude.{ℕ, ◌+◌, ◌-◌, ◌*◌, ◌<◌, ◌≤◌, ◌≡◌, ◌++◌, true, List, [], ◌∷◌, length, map, slice_index, slice_index_or}
use mathlib.Core.Option.{some}
use lib.ListN.{get_elem?}
use Rattle.atomic_table.specs.Table as table
use Rattle.atomic_table.specs.Seated.{TableId}
use Rattle.block_store.specs.declared.Config.{Config}
use Rattle.block_store.specs.Configs.{IsInBounds}
use Rattle.block_store.specs.Phases.{cycle_of}
use Rattle.block_store.specs.Places.{extent, words_count}
use Rattle.rate_plan.specs.Rates.{IsRate, IsAdmitted}
use Rattle.never_heap.specs.declared.Command.{Command}
use Rattle.never_heap.specs.declared.Command.TheVariants as commands
use Rattle.never_heap.specs.declared.Entry.{Entry}
use Rattle.never_heap.specs.declared.Reply.{Reply}
use Rattle.never_heap.specs.Histories.{HistoryItem, Started, Legal, part, starts_in, work_in}
use Rattle.never_heap.specs.Licensed.{Licensed, NoFulls, StartsSmall}
use Rattle.never_heap.specs.RightWork.{RightWork, units_owed}
use Rattle.heap_system.specs.Lives.{sum_after, objects_of, most_commands, most_objects, most_units}
use Rattle.heap_system.specs.Locals.{LocalState, is_done, works}
use Rattle.heap_system.specs.Machines.{Run, local_in}
use Rattle.heap_system.specs.Systems.{AllDone, Whole}
use Rattle.control_heap.specs.Controls.{IsByEvents, with_history}
use Rattle.control_heap.specs.Growth.{given}
use Rattle.shared_heap.specs.declared.rules.ThreadView.{ThreadView}
use Rattle.shared_heap.specs.declared.rules.Moment.{Moment}
use Rattle.shared_heap.specs.declared.rules.Moment.TheVariants as moments
use Rattle.shared_heap.specs.declared.rules.Span.{Span}
use Rattle.shared_heap.specs.declared.rules.View.{View}
use Rattle.shared_heap.specs.RealTime.{KeepsRealTime}
use Rattle.shared_heap.specs.Shared.{IsWellFormed, IsOfRun, IsStartOf, SharedKept, first_held, first_past, held_of, history_of, invoked_in, one_view, unasked}
use Rattle.shared_heap.specs.Turns.{MadeTurns}

-- which table it is, and its configuration
pub record HeapState : Type 0 where
  pub id : TableId
  pub config : Config

-- The heap of a worker; its thread, with all of its commands so far and their entries; how much of
-- the heap's timeline it has seen, and the history of that; the notes that it has learned since its
-- last command; and the turns of that command. In memory it has only its last command and that
-- command's entry.
pub record WorkerState : Type 0 where
  pub heap : TableId
  pub thread : LocalState
  pub timeline : List Moment
  pub seen : List HistoryItem
  pub notes : List (List HistoryItem)
  pub span : Span

-- how much of the history of this heap a worker had seen when the note was made
pub record NoteState : Type 0 where
  pub heap : TableId
  pub seen : List HistoryItem

-- a heap of this configuration can be opened if there is memory
pub record CanOpen (c : Config) : Type 0 where
  pub bounds : IsInBounds c
  pub plan : IsAdmitted c

-- the commands that a worker has executed, and their entries
abbrev pub asked : WorkerState → List Command
asked w = w.thread.trace

abbrev pub told : WorkerState → List Entry
told w = w.thread.log

-- the worker of thread t of this heap
abbrev pub IsWorkerOf : HeapState → ℕ → WorkerState → Type 0
IsWorkerOf h t w = (w.heap ≡ h.id) × (w.thread.thread ≡ t)

-- these are all workers of this heap, in thread order
pub record AreInOrder (h : HeapState) (ws : List WorkerState) : Type 0 where
  pub count : length ws ≡ h.config.threads
  pub each : (t : ℕ) (d : WorkerState) → t < length ws → IsWorkerOf h t (slice_index_or ws t d)

-- one of these is of thread t
abbrev pub HasWorker : ℕ → List WorkerState → Type 0
HasWorker t ws = (i : ℕ) × (i < length ws)
    × ((d : WorkerState) → (slice_index_or ws i d).thread.thread ≡ t)

-- these are all workers of this heap, each once, in any order
pub record AreEachOnce (h : HeapState) (ws : List WorkerState) : Type 0 where
  pub count : length ws ≡ h.config.threads
  pub own : (i : ℕ) (d : WorkerState) → i < length ws → (slice_index_or ws i d).heap ≡ h.id
  pub each : (t : ℕ) → t < h.config.threads → HasWorker t ws

-- each of the first is one of the second
abbrev pub AreAmong : List WorkerState → List WorkerState → Type 0
AreAmong these those = (k : ℕ) → k < length these
    → (j : ℕ) × (j < length those)
    × ((d : WorkerState) → slice_index_or these k d ≡ slice_index_or those j d)

-- it has executed no command, and has seen the start of cycle 1
pub record IsFresh (c : Config) (w : WorkerState) : Type 0 where
  pub config : w.thread.config ≡ c
  pub asked : w.thread.trace ≡ []
  pub told : w.thread.log ≡ []
  pub timeline : w.timeline ≡ moments.Began ∷ []
  pub seen : w.seen ≡ Started ∷ []
  pub notes : w.notes ≡ []

abbrev pub AreFresh : Config → List WorkerState → Type 0
AreFresh c ws = (t : ℕ) (d : WorkerState) → t < length ws → IsFresh c (slice_index_or ws t d)

-- A thread's lifetime allows one more command: its commands, its objects and, at the heap's rate,
-- its units stay within their limits.
abbrev pub HasRoom : LocalState → Command → Type 0
HasRoom l k = (length l.trace < most_commands)
    × (sum_after objects_of 0 l.trace + objects_of k ≤ most_objects)
    × ((rate : ℕ) → IsRate l.config rate
    → works l.log + units_owed l.config.width rate k ≤ most_units)

abbrev pub HasLeft : WorkerState → Command → Type 0
HasLeft w k = HasRoom w.thread k

-- each of these is a prefix of this history
abbrev pub AllStart : List (List HistoryItem) → List HistoryItem → Type 0
AllStart [] order = Unit {0}
AllStart (n ∷ ns) order = IsStartOf n order × AllStart ns order

-- What a worker has seen is a history of the heap that never frees, with licensed fulls and the
-- work that is owed. The worker's part of it is its entries, and these are of its commands. It is
-- the history of a well-formed timeline, which has the invocations of the worker's commands.
pub record HasSeenIts (w : WorkerState) : Type 0 where
  pub legal : Legal w.thread.config w.seen
  pub licensed : Licensed w.thread.config w.seen
  pub right : (rate : ℕ) → IsRate w.thread.config rate
      → RightWork w.thread.config.width rate w.seen
  pub its : part w.thread.thread w.seen ≡ told w
  pub asked : map (λ (e : Entry). e.command) (told w) ≡ asked w
  pub ordered : w.seen ≡ history_of w.timeline
  pub invoked : invoked_in w.thread.thread w.timeline ≡ w.thread.trace
  pub formed : IsWellFormed w.timeline

-- The worker has executed one more command, with this reply: the command is appended to its
-- commands, and an entry to its entries. What it had seen, and each note that it had learned, is a
-- prefix of a history `start`. What it has seen now is `start` followed by items, among which the
-- entry is the only one of this worker. In the timeline that it has seen, the command's invocation
-- comes directly after `past`, whose history is `start` and of which the timeline that it had seen
-- is a prefix.
pub record HasAnswered (old : WorkerState) (k : Command) (a : Reply) (new : WorkerState) : Type 0
  where
    pub asked : new.thread.trace ≡ old.thread.trace ++ k ∷ []
    pub entry : Entry
    pub told : new.thread.log ≡ old.thread.log ++ entry ∷ []
    pub command : entry.command ≡ k
    pub reply : entry.reply ≡ a
    pub start : List HistoryItem
    pub before : IsStartOf old.seen start
    pub noted : AllStart old.notes start
    pub items : List HistoryItem
    pub seen : new.seen ≡ start ++ items
    pub own : part old.thread.thread items ≡ entry ∷ []
    pub notes : new.notes ≡ []
    pub past : List Moment
    pub later : List Moment
    pub timeline : new.timeline ≡ past ++ moments.Invoked old.thread.thread k ∷ later
    pub began : IsStartOf old.timeline past
    pub started : start ≡ history_of past
    pub sound : HasSeenIts new

-- The worker's thread has made the events of a command and no others: one by each of these words,
-- from the command on to its end. An operation that is no event of it, such as a `peek`, this does
-- not exclude; `HasDriven` of `atom_board` does, of the loop that makes the events.
pub record HasMade (old : WorkerState) (k : Command) (new : WorkerState) : Type 0 where
  pub words : List ℕ
  pub made : MadeTurns (given k old.thread) words new.thread
  pub own : new.span.own ≡ length words

-- the same worker
pub record IsSame (old new : WorkerState) : Type 0 where
  pub heap : new.heap ≡ old.heap
  pub config : new.thread.config ≡ old.thread.config
  pub thread : new.thread.thread ≡ old.thread.thread

-- This is the worker of thread t. Its commands and entries are the thread's part of the history,
-- and its commands are those of the thread that the timeline has invocations of. What it has seen
-- is a prefix of both.
pub record HasPart (timeline : List Moment) (order : List HistoryItem) (t : ℕ) (w : WorkerState) :
    Type 0 where
  pub thread : w.thread.thread ≡ t
  pub told : told w ≡ part t order
  pub asked : map (λ (e : Entry). e.command) (part t order) ≡ asked w
  pub invoked : invoked_in t timeline ≡ w.thread.trace
  pub on_timeline : IsStartOf w.timeline timeline
  pub seen : IsStartOf w.seen order

-- The history is the order of a run of the machine, each turn of which was an event. At its end
-- each thread has finished its commands, and is the thread of its worker.
pub record IsOfMachine (c : Config) (ws : List WorkerState) (order : List HistoryItem) : Type 0
  where
    pub run : Run
    pub by : IsByEvents c run
    pub ordered : order ≡ run.order
    pub done : AllDone c run.state
    pub threads : (t : ℕ) → t < c.threads → (j : ℕ) × (j < length ws)
        × ((d : WorkerState) → (slice_index_or ws j d).thread ≡ local_in c run t)

-- There is one history of the heap that never frees. An allocation is answered full only if more
-- was live than the limit at the start of the cycle that it names; none is, if every cycle began
-- within the limit. Each entry has the work that its command owes. The entries of each thread are,
-- in order, those of its worker, and there are no other entries. The number of cycles is that of
-- its starts. On m blocks, all entries of C cycles together have at least (C - 1) m units of work
-- and at most 2 m C. The history is that of a run of the machine, and of a well-formed timeline
-- that has the invocations of all commands. It keeps real-time order: what the timeline has before
-- the invocation of a command comes in the history before the command's entry.
pub record HaveOneHistory (c : Config) (ws : List WorkerState) (cycles : ℕ) : Type 0 where
  pub timeline : List Moment
  pub order : List HistoryItem
  pub legal : Legal c order
  pub licensed : Licensed c order
  pub never : StartsSmall c order → NoFulls order
  pub right : (rate : ℕ) → IsRate c rate → RightWork c.width rate order
  pub parts : (t : ℕ) → t < c.threads → (j : ℕ) × (j < length ws)
      × ((d : WorkerState) → HasPart timeline order t (slice_index_or ws j d))
  pub others : (u : ℕ) → c.threads ≤ u → part u order ≡ []
  pub ordered : order ≡ history_of timeline
  pub no_others : (u : ℕ) → c.threads ≤ u → invoked_in u timeline ≡ []
  pub formed : IsWellFormed timeline
  pub real_time : KeepsRealTime timeline order
  pub starts : cycles ≡ starts_in order
  pub least_units : (cycles - 1) * c.blocks ≤ work_in order
  pub most_units : work_in order ≤ 2 * c.blocks * cycles
  pub machine : IsOfMachine c ws order

-- these are some of the workers of this heap, at least one
abbrev pub AreSome : HeapState → List WorkerState → Type 0
AreSome h ws = (0 < length ws)
    × ((i : ℕ) (d : WorkerState) → i < length ws → (slice_index_or ws i d).heap ≡ h.id)

-- The commands of thread t that have an entry are the first that the timeline has invocations of.
abbrev pub HasFirstCommands : List Moment → List HistoryItem → ℕ → Type 0
HasFirstCommands timeline order t = (rest : List Command)
    × (invoked_in t timeline ≡ map (λ (e : Entry). e.command) (part t order) ++ rest)

-- There is one history of the heap, as of one that is closed with all of its workers, but without
-- the bounds of the work. The entries of each of these workers are, in order, its thread's part.
-- Those of any other thread are of the first commands that the timeline has invocations of, and no
-- thread beyond those of the heap has an entry. Nothing ties these to the replies that a lost
-- worker had, but what the other workers saw of them. The history is that of a run of the machine,
-- each turn of which was an event, and of which these workers have their threads. It keeps
-- real-time order.
pub record HaveHistoryOfSome (c : Config) (ws : List WorkerState) (cycles : ℕ) : Type 0 where
  pub timeline : List Moment
  pub order : List HistoryItem
  pub legal : Legal c order
  pub licensed : Licensed c order
  pub never : StartsSmall c order → NoFulls order
  pub right : (rate : ℕ) → IsRate c rate → RightWork c.width rate order
  pub parts : (j : ℕ) (d : WorkerState) → j < length ws
      → HasPart timeline order (slice_index_or ws j d).thread.thread (slice_index_or ws j d)
  pub distinct : (i j : ℕ) (d : WorkerState) → i < j → j < length ws
      → ¬ ((slice_index_or ws i d).thread.thread ≡ (slice_index_or ws j d).thread.thread)
  pub first_commands : (t : ℕ) → t < c.threads → HasFirstCommands timeline order t
  pub others : (u : ℕ) → c.threads ≤ u → part u order ≡ []
  pub ordered : order ≡ history_of timeline
  pub no_others : (u : ℕ) → c.threads ≤ u → invoked_in u timeline ≡ []
  pub formed : IsWellFormed timeline
  pub real_time : KeepsRealTime timeline order
  pub starts : cycles ≡ starts_in order
  pub run : Run
  pub by : IsByEvents c run
  pub of_run : order ≡ run.order
  pub threads : (j : ℕ) (d : WorkerState) → j < length ws
      → (slice_index_or ws j d).thread ≡ local_in c run (slice_index_or ws j d).thread.thread

-- ---- within a worker

-- A worker between two commands: its seat knows the whole thread. In memory it has that thread with
-- only its last command, and three counts.
pub record Mirrors (h : ThreadView) (ns : List (List Moment)) (me : table.Me Command View) (id : TableId)
    (l : LocalState) (n o : ℕ) : Type 0 where
  pub knows : me ≡ (one_view h ns, [])
  pub history : h.local ≡ with_history h.local.trace h.local.log l
  pub told : IsOfRun h.local.config h.past h.local
  pub done : is_done h.local ≡ true
  pub count : length h.local.trace ≡ n
  pub objects : sum_after objects_of 0 h.local.trace ≡ o
  pub units : works h.local.log ≡ l.before + works l.log
  pub one : length l.trace ≡ 1
  pub slots : id.slots ≡ 0
  pub words : id.words ≡ words_count (extent l.config) + 1

abbrev pub IsMirrored : table.Me Command View → TableId → LocalState → ℕ → ℕ → Type 0
IsMirrored me id l n o = Mirrors (held_of l me.0.threads) me.0.notes me id l n o

-- the value of a worker in contracts
abbrev pub worker_of : TableId → ThreadView → List (List Moment) → WorkerState
worker_of id h ns = record {
  heap = id;
  thread = h.local;
  timeline = h.past.seen;
  seen = history_of h.past.seen;
  notes = map history_of ns;
  span = h.past.span;
}

abbrev pub start_worker : TableId → LocalState → WorkerState
start_worker id l = worker_of id (first_held l) []

-- A thread as a worker starts with it: it has executed nothing, and has a trace of one command,
-- which the first command will replace.
pub record IsDealt (ws : ℕ) (l : LocalState) : Type 0 where
  pub told : IsOfRun l.config (first_past l) (unasked l)
  pub rest : is_done (unasked l) ≡ true
  pub before : l.before ≡ 0
  pub log : l.log ≡ []
  pub one : length l.trace ≡ 1
  pub words : ws ≡ words_count (extent l.config) + 1

-- the first of these notes
abbrev pub note_in : List (List Moment) → List Moment
note_in [] = []
note_in (n ∷ ns) = n

-- a seat has no thread, and one note
abbrev pub IsNote : table.Me Command View → Type 0
IsNote me = me ≡ (record { threads = []; notes = note_in me.0.notes ∷ [] }, [])

-- these are the threads of these workers, in the same order, and each is done
abbrev pub IsOfWorker : WorkerState → ThreadView → Type 0
IsOfWorker w h = (w.thread ≡ h.local) × (w.seen ≡ history_of h.past.seen) × (is_done h.local ≡ true)
    × (w.timeline ≡ h.past.seen)

abbrev pub AreOfWorkers : List WorkerState → List ThreadView → Type 0
AreOfWorkers [] [] = Unit {0}
AreOfWorkers (w ∷ ws) (h ∷ hs) = IsOfWorker w h × AreOfWorkers ws hs
AreOfWorkers _ _ = ⊥

-- a seat knows the threads of these workers
pub record KnowsAll (me : table.Me Command View) (ws : List WorkerState) : Type 0 where
  pub threads : List ThreadView
  pub notes : List (List Moment)
  pub knows : me ≡ (record { threads = threads; notes = notes }, [])
  pub all : AreOfWorkers ws threads

-- The last state of a table, in which its rule holds. A seat knows the threads of these workers,
-- and the phase word has this cycle.
pub record WasClosedWith (c : Config) (ws : List WorkerState) (cycles : ℕ) : Type 0 where
  pub whole : Whole
  pub last : table.State Command View
  pub kept : SharedKept whole last
  pub config : c ≡ whole.config
  pub id : ℕ
  pub view : View
  pub seat : get_elem? last.views id ≡ some view
  pub own : AreOfWorkers ws view.threads
  pub read : cycles ≡ cycle_of (slice_index last.words 0)

-- each of these traces has one command, which the first command will replace
abbrev pub AreOnes : List (List Command) → Type 0
AreOnes [] = Unit {0}
AreOnes (x ∷ xs) = (x ≡ commands.Nil 0 ∷ []) × AreOnes xs
