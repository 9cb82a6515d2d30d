-- What a worker of a table has in memory.
use Rattle.std.specs.Prelude.{ℕ, ◌≤◌, ◌<◌, ◌≡◌, ◌^◌, List, [], length}
use Rattle.block_store.specs.declared.Config.{Config}
use Rattle.shared_heap.specs.Workers.{WorkerState}
use Rattle.live_tables.specs.rows.Rows.{Rows}
use Rattle.live_tables.specs.rows.Workers.{IsRowWorker}

-- A worker is of one of the threads, its commands are few, and what it keeps in memory of its
-- operations is so.
pub record IsTableWorker {Op Row Answer S Own : Type 0} (a : Rows Op Row Answer S)
    (Keeps : Config → ℕ → List Op → Own → Type 0) (w : WorkerState) (own : Own) : Type 0 where
  pub worker : IsRowWorker a w
  pub low : w.thread.thread < w.thread.config.threads
  pub few : length w.thread.trace ≤ 2 ^ 60
  pub keeps : Keeps w.thread.config w.thread.thread
      (a.operations_of w.thread.thread w.thread.trace) own

-- a worker that has done nothing, of a heap of this shape
pub record IsNewWorker {Op Row Answer S : Type 0} (a : Rows Op Row Answer S)
    (HasShape : Config → Type 0) (w : WorkerState) : Type 0 where
  pub worker : IsRowWorker a w
  pub low : w.thread.thread < w.thread.config.threads
  pub none : w.thread.trace ≡ []
  pub shape : HasShape w.thread.config
