use Rattle.heap_invariant.proofs.name_invariant.Example.{bounds, room, first_are, example_runs, example_cycle, example_refers, example_keeps, example_loses}
use Rattle.heap_invariant.proofs.name_invariant.the_example_runs.Goals as goal

pub returns : goal.returns
returns c = record {
  bounds = bounds;
  room = room;
  colours = first_are;
  events = example_runs;
  cycle = example_cycle;
  refers = example_refers;
  keeps = example_keeps;
  loses = example_loses;
}
