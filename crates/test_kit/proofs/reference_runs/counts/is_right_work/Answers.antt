use Rattle.test_kit.specs.reference_runs.HistoryBounds.{IsItemInBounds}
use Rattle.test_kit.proofs.reference_runs.ReplayInRange.{each_at}
use Rattle.test_kit.proofs.reference_runs.counts.is_right_work.Goals as goal

pub is_right_item-requires-clause-item : goal.is_right_item-requires-clause-item
is_right_item-requires-clause-item c =
    each_at (IsItemInBounds c.args.c.now) c.args.h.now c.loop-happened.happened-index _
    c.loop-happened-test.true c.requires.history.each
