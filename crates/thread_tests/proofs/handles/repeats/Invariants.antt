use Rattle.live_tables.specs.rows.Workers.{IsSameWorker}
use Rattle.thread_tests.proofs.handles.repeats.Given as goal

abbrev pub invariant-loop-round : goal.invariant-loop-round
invariant-loop-round g l = IsSameWorker l.fn.who l.who
