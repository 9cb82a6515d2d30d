use Rattle.std.proofs.Common.{◌<◌, ℕ}
use Rattle.shared_heap.specs.Workers.{HasWorker}
use Rattle.heapsh.proofs.crew.has_each.Given as goal

abbrev pub invariant-loop-t : goal.invariant-loop-t
invariant-loop-t l = (u : ℕ) → u < l.t → HasWorker u l.workers.items
