use Rattle.heap_invariant.proofs.graph_relation.Example.{example_runs, example_reads, example_swaps, example_made}
use Rattle.heap_invariant.proofs.graph_relation.the_example_runs.Goals as goal

pub returns : goal.returns
returns c = record {
  events = example_runs;
  result = example_reads;
  exchanged = example_swaps;
  made = example_made;
}
