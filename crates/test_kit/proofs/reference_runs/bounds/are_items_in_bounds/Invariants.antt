-- The items that are left are in their ranges exactly where all are.
use Rattle.std.proofs.Common.{◌↔◌, drop}
use Rattle.std.specs.List.{AllByRecursion}
use Rattle.test_kit.specs.reference_runs.Happenings.{history}
use Rattle.test_kit.specs.reference_runs.HistoryBounds.{IsItemInBounds}
use Rattle.test_kit.proofs.reference_runs.bounds.are_items_in_bounds.Given as goal

abbrev pub invariant-loop-happened : goal.invariant-loop-happened
invariant-loop-happened l =
    AllByRecursion (IsItemInBounds l.c) (history (drop l.happened-index l.h))
    ↔ AllByRecursion (IsItemInBounds l.c) (history l.h)
