-- The start that is looked for is the one that is left to be counted.
use Rattle.std.proofs.Common.{◌≡◌, ◌++◌, take, drop}
use Rattle.never_heap.specs.Cycles.{before_start, after_start}
use Rattle.test_kit.specs.reference_runs.Happenings.{history}
use Rattle.test_kit.proofs.reference_runs.counts.start_at.Given as goal

abbrev pub invariant-loop-i : goal.invariant-loop-i
invariant-loop-i l = record {
  before : history (take l.i l.h) ++ before_start l.left (history (drop l.i l.h))
      ≡ before_start l.cycle (history l.h);
  after : after_start l.left (history (drop l.i l.h)) ≡ after_start l.cycle (history l.h);
}
