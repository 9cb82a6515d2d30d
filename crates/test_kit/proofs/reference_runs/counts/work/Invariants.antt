-- The sum so far and the works that are left are all works.
use Rattle.std.proofs.Common.{◌≡◌, ◌+◌, drop}
use Rattle.never_heap.specs.Histories.{work_in}
use Rattle.test_kit.specs.reference_runs.Happenings.{history}
use Rattle.test_kit.proofs.reference_runs.counts.work.Given as goal

abbrev pub invariant-loop-happened : goal.invariant-loop-happened
invariant-loop-happened l =
    l.sum + work_in (history (drop l.happened-index l.h)) ≡ work_in (history l.h)
