-- The works that are left are right exactly where all are.
use Rattle.std.proofs.Common.{◌↔◌, drop}
use Rattle.never_heap.specs.RightWork.{RightWork}
use Rattle.test_kit.specs.reference_runs.Happenings.{history}
use Rattle.test_kit.proofs.reference_runs.counts.is_right_work.Given as goal

abbrev pub invariant-loop-happened : goal.invariant-loop-happened
invariant-loop-happened l =
    RightWork l.c.width l.rate (history (drop l.happened-index l.h))
    ↔ RightWork l.c.width l.rate (history l.h)
