-- The starts so far and those that are left are all starts.
use Rattle.std.proofs.Common.{◌≡◌, ◌+◌, ◌≤◌, drop}
use Rattle.never_heap.specs.Histories.{starts_in}
use Rattle.test_kit.specs.reference_runs.Happenings.{history}
use Rattle.test_kit.proofs.reference_runs.counts.starts.Given as goal

abbrev pub invariant-loop-happened : goal.invariant-loop-happened
invariant-loop-happened l = record {
  few : l.count ≤ l.happened-index;
  all : l.count + starts_in (history (drop l.happened-index l.h)) ≡ starts_in (history l.h);
}
