-- A shared heap's workers and commands under way.
use Rattle.std.specs.Prelude.{◌≡◌}
use Rattle.atomic_table.specs.Seated.{TableId}
use Rattle.shared_heap.specs.Workers.{WorkerState}
use Rattle.heapsh.specs.declared.crew.Begun.{Begun}

-- a worker of this heap
abbrev pub IsOf : TableId → WorkerState → Type 0
IsOf id w = w.heap ≡ id

-- a command that a worker of this heap has begun
abbrev pub IsBegunOn : TableId → Begun → Type 0
IsBegunOn id b = (b.pending.heap ≡ id) × (b.pending.worker.heap ≡ id)
