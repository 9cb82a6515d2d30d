-- What was appended so far.
use Rattle.std.proofs.Common.{◌≡◌, ◌++◌, map, take}
use Rattle.plantrun_core.specs.Logs.{step_by}
use Rattle.plantrun_core.proofs.order.append.Given as goal

abbrev pub invariant-loop-done : goal.invariant-loop-done
invariant-loop-done l =
    l.steps.items ≡ l.fn.steps.items ++ map (step_by l.thread) (take l.done-index l.log)
