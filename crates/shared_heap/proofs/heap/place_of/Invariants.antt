use Rattle.std.proofs.Common.{◌≢◌, ◌≤◌, ◌<◌, ℕ, length, get_or}
use Rattle.shared_heap.specs.Workers.{WorkerState}
use Rattle.shared_heap.proofs.heap.place_of.Given as goal

abbrev pub invariant-loop-j : goal.invariant-loop-j
invariant-loop-j l = (k : ℕ) (d : WorkerState) → l.from ≤ k → k < l.j → k < length l.who → (get_or l.who k d).thread.thread ≢ l.thread
