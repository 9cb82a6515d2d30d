-- A table of tags that running threads share, and its workers, as contracts see them.
use Rattle.std.specs.Prelude.{ℕ, ◌≤◌, ◌≡◌, ◌*◌, ◌^◌, List, length}
use Rattle.block_store.specs.declared.Config.{Config}
use Rattle.never_heap.specs.declared.Command.{Command}
use Rattle.never_heap.specs.Histories.{HistoryItem}
use Rattle.array_tables.specs.operations.Linearizations.{Call}
use Rattle.shared_heap.specs.declared.rules.Moment.{Moment}
use Rattle.shared_heap.specs.Workers.{CanOpen, HasSeenIts}
use Rattle.array_tables.specs.declared.tag_table.operation.Operation.{Operation}
use Rattle.array_tables.specs.declared.tag_table.operation.Operation.TheVariants.{Write}
use Rattle.array_tables.specs.tag_table.Tables.{Tag, Row, rows_of, command_at, decides, ends, answer, table_after, empty_table, tag_config, AreInTable, IsOperationInRange, pair_of}
use Rattle.live_tables.specs.rows.Orders as orders
use Rattle.live_tables.specs.rows.Rows as rows
use Rattle.live_tables.specs.rows.Rows.{Rows}
use Rattle.live_tables.specs.rows.Workers as workers
use Rattle.live_tables.specs.rows.Workers.{RowWorkerState, places_of}
use Rattle.live_tables.specs.declared.tags.table.Refused.{Refused}
use Rattle.live_tables.specs.declared.tags.table.Refused.TheVariants.{OutOfRange, NoLifeLeft}
use Rattle.live_tables.specs.declared.tags.table.OpenFault.{OpenFault}
use Rattle.live_tables.specs.declared.tags.table.OpenFault.TheVariants as faults
use Rattle.live_tables.specs.tags.Decoding.{operations_of}

-- The table, its operations, and the commands that they are made of. Each thread may do any of
-- them, and they can be read off any commands.
abbrev pub tags : Rows Operation Row Tag (List Tag)
tags = record {
  rows_of = rows_of;
  command_at = command_at;
  decides = decides;
  ends = ends;
  say = answer;
  act = table_after;
  empty = empty_table;
  config_of = tag_config;
  AreDone = λ places t ops. AreInTable places ops;
  CanBeNext = λ places t ops op. IsOperationInRange places op;
  operations_of = λ t ks. operations_of ks;
  AreRead = λ t ops. Unit {0};
  answer_by = λ op p. pair_of p.1 p.2;
}

-- A worker of a table: its worker of the heap, the operations that it did, and their answers. In
-- memory it has only its last command.
abbrev pub TagWorkerState : Type 0
TagWorkerState = RowWorkerState Operation Tag

-- the commands of operations
abbrev pub commands_of : List Operation → List Command
commands_of ops = rows.commands_of tags ops

-- the heap of a table as it is opened
abbrev pub opened_config : ℕ → ℕ → Config
opened_config threads tags =
    tag_config threads tags (4 * (tag_config threads tags 0).live)

-- the worker's lifetime allows all commands of an operation
abbrev pub HasLife : TagWorkerState → Operation → Type 0
HasLife w op = workers.HasLife tags w op

-- it can do the operation
abbrev pub CanDo : TagWorkerState → Operation → Type 0
CanDo w op = IsOperationInRange (places_of w) op × HasLife w op

-- The worker has done one more operation, with this answer, after all that it had seen and learned.
abbrev pub HasDone : TagWorkerState → Operation → Tag → TagWorkerState → Type 0
HasDone old op tag new = workers.HasDone tags old op tag new

-- the cause of each refusal of an operation
abbrev pub IsRefused : TagWorkerState → Operation → Refused → Type 0
IsRefused w op OutOfRange = ¬ IsOperationInRange (places_of w) op
IsRefused w op NoLifeLeft = IsOperationInRange (places_of w) op × ¬ HasLife w op

-- the ranges of a table's places and threads
pub record IsTableInRange (tags threads : ℕ) : Type 0 where
  pub few_tags : tags ≤ 1024
  pub some_thread : 1 ≤ threads
  pub few_threads : threads ≤ 16

abbrev pub IsOpenFault : ℕ → ℕ → OpenFault → Type 0
IsOpenFault tags threads faults.OutOfRange = ¬ IsTableInRange tags threads
IsOpenFault tags threads faults.NoMemory =
    IsTableInRange tags threads × CanOpen (opened_config threads tags)

-- This is the worker of thread t. It did the operations of the thread's script, and its answers are
-- those of the thread's calls in the order. The timeline has the invocations of its commands. What
-- it has seen is a prefix of the timeline and of the history.
abbrev pub HasScript : List (List Operation) → List Moment → List HistoryItem
    → List (Call Operation Tag) → ℕ → TagWorkerState → Type 0
HasScript scripts timeline history order t w =
    orders.HasScript scripts timeline history order t w

-- There is a history of the job of some scripts, with a linearization and with no allocation that
-- was answered full. Each worker did the operations of one script, in its order. Its answers are
-- those of a plain table in the order of the linearization. The number of cycles is that of the
-- history, whose units of work are within the bounds of so many cycles, and which is that of a run
-- of the machine. The order keeps the real-time order of a timeline that has the invocations of all
-- commands.
abbrev pub HaveOneTable : Config → List TagWorkerState → ℕ → Type 0
HaveOneTable c ws cycles = orders.HaveOneOrder tags c ws cycles

-- how many records the commands of an operation make
abbrev pub objects_by : Operation → ℕ
objects_by (Write i v q) = 1
objects_by _ = 0

-- a worker that has done at most 2^24 operations has life left for one more
abbrev pub FewLeaveLife : Type 0
FewLeaveLife =
    (w : TagWorkerState) (op : Operation) → HasSeenIts w.worker → workers.HasSeenAll tags w
    → rows.IsRowHeap tags w.worker.thread.config → CanOpen w.worker.thread.config
    → length w.done ≤ 2 ^ 24 → HasLife w op
