use Rattle.std.proofs.Common.{◌≡◌, take}
use Rattle.never_heap.specs.Graphs.{start_graph}
use Rattle.rt_check.specs.rt_limit.Counting.{Knows}
use Rattle.rt_check.specs.rt_limit.Moments.{graph_behind}
use Rattle.rt_check.proofs.rt_limit.counts.figures_of.Given as goal

abbrev pub invariant-loop-next : goal.invariant-loop-next
invariant-loop-next l = record {
  graph : l.graph ≡ record {
    width = l.config.width;
    graph = graph_behind (start_graph l.config) (take l.next-index l.moves);
  };
  knows : Knows l.config.width (start_graph l.config) (take l.next-index l.moves) l.counter;
}
