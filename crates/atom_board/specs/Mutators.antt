-- A board, a mutator and an ended run as contracts see them.
use Rattle.std.specs.Prelude.{ℕ, ◌+◌, ◌<◌, ◌≤◌, ◌≡◌, ◌++◌, true, List, [], length, slice_index_or}
use Rattle.atomic_table.specs.Seated.{TableId}
use Rattle.block_store.specs.declared.Config.{Config}
use Rattle.block_store.specs.Counts.{times}
use Rattle.never_heap.specs.declared.Command.{Command}
use Rattle.never_heap.specs.declared.Entry.{Entry}
use Rattle.heap_system.specs.Locals.{LocalState, LocalReads, is_done, local_got, part_step, turn_of}
use Rattle.heap_system.specs.Machines.{Run, local_in}
use Rattle.heap_system.specs.Serials.{AreOfThreads, AreFew}
use Rattle.heap_system.specs.Systems.{IsFinished}
use Rattle.heap_system.specs.declared.Turn.{Turn}
use Rattle.atom_board.specs.declared.rules.ThreadView.{ThreadView}
use Rattle.atom_board.specs.Boards.{held}
use Rattle.atom_board.specs.LoneTurns.{EndsAlone}

-- which table it is, its configuration, and what each thread was told to do
pub record BoardState : Type 0 where
  pub id : TableId
  pub config : Config
  pub traces : List (List Command)

-- the table of its board, the thread, and how many turns it has made
pub record MutatorState : Type 0 where
  pub board : TableId
  pub local : LocalState
  pub turns : ℕ

-- the configuration, the logs and the number of cycles of a run that has ended
pub record ClosedState : Type 0 where
  pub config : Config
  pub logs : List (List Entry)
  pub cycles : ℕ

-- the mutator of thread t of this board
abbrev pub IsMutatorOf : BoardState → ℕ → MutatorState → Type 0
IsMutatorOf b t m = (m.board ≡ b.id) × (m.local.thread ≡ t)

-- the mutators are all of this board's, in the order of their threads
pub record AreInOrder (b : BoardState) (ms : List MutatorState) : Type 0 where
  pub count : length ms ≡ b.config.threads
  pub each : (t : ℕ) (d : MutatorState) → t < length ms → IsMutatorOf b t (slice_index_or ms t d)

-- one of these is of thread t
abbrev pub HasMutator : ℕ → List MutatorState → Type 0
HasMutator t ms = (i : ℕ) × (i < length ms)
    × ((d : MutatorState) → (slice_index_or ms i d).local.thread ≡ t)

-- the mutators are all of this board's, each once, in any order
pub record AreEachOnce (b : BoardState) (ms : List MutatorState) : Type 0 where
  pub count : length ms ≡ b.config.threads
  pub own : (i : ℕ) (d : MutatorState) → i < length ms → (slice_index_or ms i d).board ≡ b.id
  pub each : (t : ℕ) → t < b.config.threads → HasMutator t ms

-- each of the first is one of the second
abbrev pub AreAmong : List MutatorState → List MutatorState → Type 0
AreAmong these those = (k : ℕ) → k < length these
    → (j : ℕ) × (j < length those)
    × ((d : MutatorState) → slice_index_or these k d ≡ slice_index_or those j d)

-- this mutator is of thread t and has this log
abbrev pub HasLog : ℕ → List Entry → MutatorState → Type 0
HasLog t log m = (m.local.thread ≡ t) × (log ≡ m.local.log)

-- log t is that of a mutator of thread t
abbrev pub AreLogsOf : List (List Entry) → List MutatorState → Type 0
AreLogsOf logs ms = (t : ℕ) → t < length logs
    → (j : ℕ) × (j < length ms)
    × ((d : MutatorState) → HasLog t (slice_index_or logs t []) (slice_index_or ms j d))

abbrev pub start_mutator : TableId → LocalState → MutatorState
start_mutator id l = record { board = id; local = l; turns = 0 }

abbrev pub held_of : MutatorState → ThreadView
held_of m = held m.local m.turns

abbrev pub local_of : MutatorState → LocalState
local_of m = m.local

abbrev pub log_of : MutatorState → List Entry
log_of m = m.local.log

-- it has made no turn yet, and has this trace before it
pub record IsFresh (c : Config) (given : List Command) (m : MutatorState) : Type 0 where
  pub config : m.local.config ≡ c
  pub turns : m.turns ≡ 0
  pub log : m.local.log ≡ []
  pub trace : m.local.trace ≡ given

abbrev pub AreFresh : Config → List (List Command) → List MutatorState → Type 0
AreFresh c traces ms = (t : ℕ) (d : MutatorState) → t < length ms
    → IsFresh c (slice_index_or traces t []) (slice_index_or ms t d)

-- Where it is alone on its board, a mutator has made at most as many turns as the bounds of its
-- commands sum up to, and fewer while it is not done.
abbrev pub HasFewTurns : MutatorState → Type 0
HasFewTurns m = EndsAlone m.local m.turns

abbrev pub AllAreDone : List MutatorState → Type 0
AllAreDone ms = (t : ℕ) (d : MutatorState) → t < length ms
    → is_done (slice_index_or ms t d).local ≡ true

-- what a turn makes of a mutator whose thread is not done: its thread is moved on by one row on the
-- word that its one step read, and it has made one turn more
pub record Moved (old new : MutatorState) (answer : Turn) : Type 0 where
  pub word : ℕ
  pub reads : LocalReads old.local.config old.local word
  pub local : new.local ≡ local_got old.local word
  pub turns : new.turns ≡ old.turns + 1
  pub answered : answer ≡ turn_of (part_step old.local.config old.local.part word)

-- the same thread of the same board, after some more turns
pub record IsLater (old new : MutatorState) : Type 0 where
  pub board : new.board ≡ old.board
  pub config : new.local.config ≡ old.local.config
  pub thread : new.local.thread ≡ old.local.thread
  pub trace : new.local.trace ≡ old.local.trace
  pub turns : old.turns ≤ new.turns
  pub more : List Entry
  pub log : new.local.log ≡ old.local.log ++ more

-- this mutator is of thread t, ends as the run of these turns leaves the thread, and has made as
-- many turns as the list has of it
pub record EndsIn (c : Config) (ts : List ℕ) (r : Run) (t : ℕ) (m : MutatorState) : Type 0 where
  pub thread : m.local.thread ≡ t
  pub local : m.local ≡ local_in c r t
  pub turns : m.turns ≡ times t ts

-- each thread has such a mutator
abbrev pub AllEndIn : Config → List ℕ → Run → List MutatorState → Type 0
AllEndIn c ts r ms = (t : ℕ) → t < c.threads
    → (j : ℕ) × (j < length ms) × ((d : MutatorState) → EndsIn c ts r t (slice_index_or ms j d))

-- The finished run is that of these mutators: its list of turns has each thread as often as the
-- thread's mutator has made turns, and no other number, and leaves the thread as that mutator is.
-- Where there is one thread, the turns are few.
pub record IsFinishedBy (c : Config) (traces : List (List Command)) (ms : List MutatorState)
    (logs : List (List Entry)) (cycles : ℕ) : Type 0 where
  pub finished : IsFinished c traces logs cycles
  pub counted : AllEndIn c finished.turns finished.run ms
  pub own : AreOfThreads c finished.turns
  pub few : AreFew c traces finished.turns
