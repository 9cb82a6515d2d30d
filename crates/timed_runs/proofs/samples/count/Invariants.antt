use Rattle.std.proofs.Common.{◌≡◌, ◌≤◌, ◌+◌, drop}
use Rattle.timed_runs.specs.Samples.{count_of}
use Rattle.timed_runs.proofs.samples.count.Given as goal

abbrev pub invariant-loop-entry : goal.invariant-loop-entry
invariant-loop-entry l =
    (l.count + count_of l.width l.which.kind (drop l.entry-index l.entries)
    ≡ count_of l.width l.which.kind l.entries)
    × (l.count ≤ l.entry-index)
