-- Counters that running threads share: each thread adds to its own, and reads those of all.
use Rattle.std.specs.Prelude.{ℕ, ◌+◌, ◌*◌, ◌<◌, ◌≡◌, ◌^◌, List, [], ◌∷◌}
use Rattle.array_trees.specs.Trees.{array_blocks}
use Rattle.block_store.specs.declared.Config.{Config}
use Rattle.block_store.specs.declared.Width.TheVariants.{Eight}
use Rattle.array_tables.specs.number_rings.Rings.{Operation, Keep, Recall, Cell, Row, AreInCells, cell_config}
use Rattle.live_tables.specs.declared.rings.request.RingRequest.{RingRequest}
use Rattle.live_tables.specs.declared.rings.request.RingRequest.TheVariants as asks
use Rattle.live_tables.specs.rings.Live.{rings}
use Rattle.live_tables.specs.rows.Rows.{Rows}
use Rattle.live_tables.specs.rows.Workers.{RowWorkerState, thread_of}

-- what a thread's counter holds after these operations, if it held this before
abbrev pub total_after : ℕ → List Operation → ℕ
total_after n [] = n
total_after n (Keep i v ∷ ops) = total_after v ops
total_after n (Recall i ∷ ops) = total_after n ops

abbrev pub total_by : List Operation → ℕ
total_by ops = total_after 0 ops

-- a thread stores only in its own counter
abbrev pub AreOwn : ℕ → List Operation → Type 0
AreOwn t [] = Unit {0}
AreOwn t (Keep i v ∷ ops) = (i ≡ t) × AreOwn t ops
AreOwn t (Recall i ∷ ops) = AreOwn t ops

abbrev pub CanBeNext : ℕ → ℕ → List Operation → Operation → Type 0
CanBeNext places t before (Keep i v) = (i ≡ t) × (i < places) × (v < 2 ^ 62)
CanBeNext places t before (Recall i) = i < places

-- the counters: numbers in the places of an array, as those of rings
abbrev pub counters : Rows Operation Row Cell (List Cell)
counters = record rings {
  AreDone = λ places t ops. AreInCells places ops × AreOwn t ops;
  CanBeNext = CanBeNext;
  AreRead = λ t ops. AreOwn t ops;
}

abbrev pub CounterWorkerState : Type 0
CounterWorkerState = RowWorkerState Operation Cell

-- what a worker does that adds so much to its own counter
abbrev pub addition : CounterWorkerState → ℕ → Operation
addition w n = Keep (thread_of w) (total_by w.done + n)

-- the operation that a worker is asked for, and what its counter holds then
abbrev pub operation_of : CounterWorkerState → RingRequest → Operation
operation_of w (asks.Keep v) = Keep (thread_of w) v
operation_of w (asks.Recall u k) = Recall u

abbrev pub total_next : ℕ → RingRequest → ℕ
total_next n (asks.Keep v) = v
total_next n (asks.Recall u k) = n

-- the heap has a place for each thread
abbrev pub IsOneEach : Config → Type 0
IsOneEach c = c.shared ≡ c.threads

abbrev pub opened_config : ℕ → Config
opened_config n = cell_config n n (4 * (4 * n + array_blocks Eight n + n))

-- a worker keeps what its counter holds
pub record Keeps (c : Config) (t : ℕ) (ops : List Operation) (total : ℕ) : Type 0 where
  pub places : c.shared ≡ c.threads
  pub total_so : total ≡ total_by ops
