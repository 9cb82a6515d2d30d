-- What is left is legal after the graph so far exactly where all is.
use Rattle.std.proofs.Common.{◌↔◌, ◌≡◌, take, drop}
use Rattle.never_heap.specs.Graphs.{start_graph}
use Rattle.never_heap.specs.Histories.{LegalFrom, replay}
use Rattle.test_kit.specs.reference_runs.Happenings.{history}
use Rattle.test_kit.proofs.reference_runs.replays.is_legal.Given as goal

abbrev pub invariant-loop-happened : goal.invariant-loop-happened
invariant-loop-happened l = record {
  graph : l.graph.graph ≡ replay l.c (history (take l.happened-index l.h));
  legal : LegalFrom l.graph.graph (history (drop l.happened-index l.h))
      ↔ LegalFrom (start_graph l.c) (history l.h);
}
