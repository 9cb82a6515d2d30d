use Rattle.std.proofs.Common.{ℕ, ◌*◌, ◌^◌, ◌<◌, ◌≤◌}
use Rattle.timed_runs.specs.time_histograms.Counts.{between, IsOneOf}
use Rattle.timed_runs.proofs.time_histograms.bars.fullest.Given as goal

abbrev pub invariant-loop-class : goal.invariant-loop-class
invariant-loop-class l =
    ((k : ℕ) → k < l.class → between (2 ^ k) (2 * 2 ^ k) l.fn.times ≤ l.most)
    × IsOneOf l.fn.times l.class l.most
