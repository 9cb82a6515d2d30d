use Rattle.std.proofs.Common.{◌≡◌, ℕ, get_or, length}
use Rattle.saved_heap.proofs.walk.grow.Given as goal

abbrev pub invariant-loop-number : goal.invariant-loop-number
invariant-loop-number l = record {
  long : length l.numbers.items ≡ l._number;
  same : (x : ℕ) → get_or l.numbers.items x 0 ≡ get_or l.fn.numbers.items x 0;
}
