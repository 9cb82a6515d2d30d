-- The graph is that of the items so far.
use Rattle.std.proofs.Common.{◌≡◌, take}
use Rattle.never_heap.specs.Histories.{replay}
use Rattle.test_kit.specs.reference_runs.Happenings.{history}
use Rattle.test_kit.proofs.reference_runs.replays.graph_after.Given as goal

abbrev pub invariant-loop-happened : goal.invariant-loop-happened
invariant-loop-happened l = record {
  width : l.graph.width ≡ l.c.width;
  graph : l.graph.graph ≡ replay l.c (history (take l.happened-index l.h));
}
