use Rattle.std.proofs.Common.{◌≡◌, ◌++◌, drop}
use Rattle.timed_runs.specs.Samples.{asked, times_of, longest_from, longest_of}
use Rattle.timed_runs.proofs.samples.sample_of.Given as goal

abbrev pub invariant-loop-one : goal.invariant-loop-one
invariant-loop-one l =
    (l.times.items ++ times_of (asked l.width l.which (drop l.one-index l.commands))
    ≡ times_of (asked l.width l.which l.commands))
    × (longest_from l.longest (asked l.width l.which (drop l.one-index l.commands))
    ≡ longest_of (asked l.width l.which l.commands))
