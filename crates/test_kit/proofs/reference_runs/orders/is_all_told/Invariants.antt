-- All of the logs so far was told.
use Rattle.std.proofs.Common.{◌≡◌, ◌<◌, ℕ, []}
use Rattle.test_kit.specs.reference_runs.Making.{left_of}
use Rattle.test_kit.proofs.reference_runs.orders.is_all_told.Given as goal

abbrev pub invariant-loop-t : goal.invariant-loop-t
invariant-loop-t g l =
    (t : ℕ) → t < l.t → left_of (g.R.Logs.logs l.run) l.told t ≡ []
