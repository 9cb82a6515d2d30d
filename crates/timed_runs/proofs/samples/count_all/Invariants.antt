use Rattle.std.proofs.Common.{ℕ, ◌≡◌, ◌<◌, ◌^◌, take}
use Rattle.std.specs.List.{sum_by}
use Rattle.timed_runs.specs.Samples.{count_of}
use Rattle.timed_runs.proofs.samples.count_all.Given as goal

abbrev pub invariant-loop-thread : goal.invariant-loop-thread
invariant-loop-thread g l =
    let count : ℕ = sum_by (count_of l.width l.which.kind) (take l.thread (g.L.Logs.logs l.run)) in
    count < 2 ^ 64 → l.total ≡ count
