use Rattle.std.proofs.Common.{subst}
use Rattle.test_kit.specs.declared.reference_runs.Happened.{Happened}
use Rattle.test_kit.specs.reference_runs.Happenings.{item}
use Rattle.test_kit.specs.reference_runs.HistoryBounds.{IsItemInBounds}
use Rattle.test_kit.proofs.reference_runs.ReplayInRange.{each_at}
use Rattle.test_kit.proofs.reference_runs.counts.taken.Goals as goal

pub taken_by-sum-requires : goal.taken_by-sum-requires
taken_by-sum-requires c =
    (subst (λ (x : Happened). IsItemInBounds c.args.c.now (item x)) c.in-Did.is
    (each_at (IsItemInBounds c.args.c.now) c.args.h.now c.loop-happened.happened-index _
    c.loop-happened-test.true c.requires.each)).1
