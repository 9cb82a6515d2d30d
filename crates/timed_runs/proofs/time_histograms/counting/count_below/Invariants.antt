use Rattle.std.proofs.Common.{◌≡◌, ◌≤◌, ◌+◌, drop}
use Rattle.timed_runs.specs.time_histograms.Counts.{below}
use Rattle.timed_runs.proofs.time_histograms.counting.count_below.Given as goal

abbrev pub invariant-loop-time : goal.invariant-loop-time
invariant-loop-time l =
    (l.count + below l.bound (drop l.time-index l.times) ≡ below l.bound l.times)
    × (l.count ≤ l.time-index)
