-- Rings of numbers that running threads share, and their workers, as contracts see them.
use Rattle.std.specs.Prelude.{ℕ, ◌+◌, ◌*◌, ◌<◌, ◌≤◌, ◌≡◌, ◌^◌, None, List, [], ◌∷◌}
use Rattle.block_store.specs.declared.Config.{Config}
use Rattle.never_heap.specs.declared.Command.{Command}
use Rattle.never_heap.specs.declared.Reply.{Reply}
use Rattle.shared_heap.specs.Workers.{CanOpen}
use Rattle.array_tables.specs.number_rings.Rings.{Operation, Keep, Recall, Cell, Row, AreInCells, answer, cell_config, cells_after, command_at, decides, empty_cells, ends, number_of, ring_config, ring_place, rows_of}
use Rattle.live_tables.specs.rows.Orders as orders
use Rattle.live_tables.specs.rows.Rows as rows
use Rattle.live_tables.specs.rows.Rows.{Rows}
use Rattle.live_tables.specs.rows.Workers as workers
use Rattle.live_tables.specs.rows.Workers.{RowWorkerState, thread_of, threads_of}
use Rattle.live_tables.specs.declared.rings.faults.Refused.{Refused}
use Rattle.live_tables.specs.declared.rings.faults.Refused.TheVariants.{OutOfRange, NoLifeLeft}
use Rattle.live_tables.specs.declared.rings.faults.OpenFault.{OpenFault}
use Rattle.live_tables.specs.declared.rings.faults.OpenFault.TheVariants as faults
use Rattle.live_tables.specs.declared.rings.request.RingRequest.{RingRequest}
use Rattle.live_tables.specs.declared.rings.request.RingRequest.TheVariants as asks
use Rattle.live_tables.specs.rings.Decoding.{operations_of}

-- how many numbers were kept, after n others
abbrev pub kept_behind : ℕ → List Operation → ℕ
kept_behind n [] = n
kept_behind n (Keep i v ∷ ops) = kept_behind (n + 1) ops
kept_behind n (Recall i ∷ ops) = kept_behind n ops

abbrev pub kept_by : List Operation → ℕ
kept_by ops = kept_behind 0 ops

-- Each keep of thread t, of which n numbers were kept before, is at the next place of its ring.
abbrev pub AreOwnFrom : ℕ → ℕ → List Operation → Type 0
AreOwnFrom t n [] = Unit {0}
AreOwnFrom t n (Keep i v ∷ ops) = (i ≡ ring_place t n) × AreOwnFrom t (n + 1) ops
AreOwnFrom t n (Recall i ∷ ops) = AreOwnFrom t n ops

abbrev pub AreOwn : ℕ → List Operation → Type 0
AreOwn t ops = AreOwnFrom t 0 ops

-- what a thread can do next: a keep is at the next place of its ring
abbrev pub CanBeNext : ℕ → ℕ → List Operation → Operation → Type 0
CanBeNext places t before (Keep i v) =
    (i ≡ ring_place t (kept_by before)) × (i < places) × (v < 2 ^ 62)
CanBeNext places t before (Recall i) = i < places

-- the answer that the last three replies tell
abbrev pub answer_by : Operation → Reply × Reply × Reply → Cell
answer_by (Keep i v) p = None
answer_by (Recall i) p = number_of p.2

-- The places of all rings, the operations, and the commands that they are made of.
abbrev pub rings : Rows Operation Row Cell (List Cell)
rings = record {
  rows_of = rows_of;
  command_at = command_at;
  decides = decides;
  ends = ends;
  say = answer;
  act = cells_after;
  empty = empty_cells;
  config_of = cell_config;
  AreDone = λ places t ops. AreInCells places ops × AreOwn t ops;
  CanBeNext = CanBeNext;
  operations_of = λ t ks. operations_of ks;
  AreRead = λ t ops. AreOwn t ops;
  answer_by = answer_by;
}

-- A worker of a ring: its worker of the heap, the operations that it did, and their answers. In
-- memory it has only its last command, and how many numbers it kept.
abbrev pub RingWorkerState : Type 0
RingWorkerState = RowWorkerState Operation Cell

-- the commands of operations
abbrev pub commands_of : List Operation → List Command
commands_of ops = rows.commands_of rings ops

-- the heap of rings has eight places for each thread
abbrev pub AreOfEight : Config → Type 0
AreOfEight c = c.shared ≡ 8 * c.threads

-- ---- what a worker is asked to do

-- the operation: a keep at the next place of the worker's own ring, or a recall of any place
abbrev pub operation_of : RingWorkerState → RingRequest → Operation
operation_of w (asks.Keep v) = Keep (ring_place (thread_of w) (kept_by w.done)) v
operation_of w (asks.Recall u k) = Recall (8 * u + k)

-- its ranges: a number fits in a field, and a place is one of eight of a thread's ring
abbrev pub IsInRange : ℕ → RingRequest → Type 0
IsInRange threads (asks.Keep v) = v < 2 ^ 62
IsInRange threads (asks.Recall u k) = (u < threads) × (k < 8)

-- the worker's lifetime allows all commands of an operation
abbrev pub HasLife : RingWorkerState → Operation → Type 0
HasLife w op = workers.HasLife rings w op

-- it can do what it is asked
abbrev pub CanDo : RingWorkerState → RingRequest → Type 0
CanDo w u = IsInRange (threads_of w) u × HasLife w (operation_of w u)

-- the cause of each refusal
abbrev pub IsRefused : RingWorkerState → RingRequest → Refused → Type 0
IsRefused w u OutOfRange = ¬ IsInRange (threads_of w) u
IsRefused w u NoLifeLeft = IsInRange (threads_of w) u × ¬ HasLife w (operation_of w u)

-- ---- workers

-- The worker has done one more operation, with this answer, after all that it had seen and learned.
abbrev pub HasDone : RingWorkerState → Operation → Cell → RingWorkerState → Type 0
HasDone old op a new = workers.HasDone rings old op a new

-- ---- opening and closing

-- the range of threads
pub record AreRingsInRange (threads : ℕ) : Type 0 where
  pub some_thread : 1 ≤ threads
  pub few_threads : threads ≤ 16

abbrev pub IsOpenFault : ℕ → OpenFault → Type 0
IsOpenFault threads faults.OutOfRange = ¬ AreRingsInRange threads
IsOpenFault threads faults.NoMemory = AreRingsInRange threads × CanOpen (ring_config threads)

-- All operations of all workers have one order, which keeps the order of each worker, and in which
-- each was answered as by a plain array of places. It is that of a history of the heap, in which no
-- allocation was answered full, and which is that of a run of the machine with so many cycles. It
-- keeps the real-time order of a timeline that has the invocations of all commands.
abbrev pub HaveOneOrder : Config → List RingWorkerState → ℕ → Type 0
HaveOneOrder c ws cycles = orders.HaveOneOrder rings c ws cycles

-- ---- within a worker

-- how many numbers a request keeps
abbrev pub keeping : RingRequest → ℕ
keeping (asks.Keep v) = 1
keeping _ = 0

-- a worker keeps how many numbers it kept
pub record Keeps (c : Config) (t : ℕ) (ops : List Operation) (kept : ℕ) : Type 0 where
  pub places : c.shared ≡ 8 * c.threads
  pub kept_so : kept ≡ kept_by ops
