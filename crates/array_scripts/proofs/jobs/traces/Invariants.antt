-- The traces so far and those of the scripts that are left are all traces.
use Rattle.std.proofs.Common.{◌≡◌, ◌++◌, drop, map}
use Rattle.array_scripts.specs.Answers.{each_from, traces_in}
use Rattle.array_scripts.proofs.jobs.traces.Given as goal

abbrev pub invariant-loop-t : goal.invariant-loop-t
invariant-loop-t g l =
    map (λ v. v.items) l.traces.items
    ++ each_from g.K.Runnable.commands l.t (drop l.t (map (λ ops. ops.items) l.scripts))
    ≡ traces_in g.K.Runnable.commands (map (λ ops. ops.items) l.scripts)
