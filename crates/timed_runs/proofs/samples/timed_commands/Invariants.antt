use Rattle.std.specs.List.{All}
use Rattle.timed_runs.specs.Samples.{IsCommandOf}
use Rattle.timed_runs.proofs.samples.timed_commands.Given as goal

abbrev pub invariant-loop-thread : goal.invariant-loop-thread
invariant-loop-thread g l = All (IsCommandOf (g.L.Logs.logs l.run)) l.commands.items

abbrev pub invariant-loop-number : goal.invariant-loop-number
invariant-loop-number g l = All (IsCommandOf (g.L.Logs.logs l.run)) l.commands.items
