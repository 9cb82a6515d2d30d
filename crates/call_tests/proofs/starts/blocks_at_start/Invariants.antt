use Rattle.std.proofs.Common.{ℕ, ◌<◌, ◌≤◌, ◌⊎◌, slice_index_or}
use Rattle.call_tests.proofs.starts.blocks_at_start.Given as goal

abbrev pub invariant-loop-units : goal.invariant-loop-units
invariant-loop-units l = (t : ℕ) (d : ℕ × ℕ) → t < l.units-index
    → ((slice_index_or l.fn.starts t d).0 < l.fn.before)
    ⊎ (l.fn.after ≤ (slice_index_or l.fn.starts t d).0)
