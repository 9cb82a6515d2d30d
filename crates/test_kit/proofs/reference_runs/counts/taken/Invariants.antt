-- The blocks so far and those that are left are all blocks.
use Rattle.std.proofs.Common.{◌≡◌, ◌+◌, ◌*◌, ◌^◌, ◌≤◌, drop}
use Rattle.never_heap.specs.Taken.{taken_in}
use Rattle.test_kit.specs.reference_runs.Happenings.{history}
use Rattle.test_kit.proofs.reference_runs.counts.taken.Given as goal

abbrev pub invariant-loop-happened : goal.invariant-loop-happened
invariant-loop-happened l = record {
  few : l.sum ≤ l.happened-index * 2 ^ 32;
  all : l.sum + taken_in l.c.width (history (drop l.happened-index l.h))
      ≡ taken_in l.c.width (history l.h);
}
