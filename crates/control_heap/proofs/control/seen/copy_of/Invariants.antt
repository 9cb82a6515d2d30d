use Rattle.std.proofs.Common.{◌≡◌, ℕ, ◌<◌, get_or, length}
use Rattle.control_heap.proofs.control.seen.copy_of.Given as goal

abbrev pub invariant-loop-place : goal.invariant-loop-place
invariant-loop-place l = record {
  long : length l.copy ≡ length l.words;
  same : (k : ℕ) → k < l.place → get_or l.copy k 0 ≡ get_or l.words k 0;
}
