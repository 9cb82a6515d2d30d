use Rattle.heap_invariant.proofs.cycle_tally.Example.{bounds, room, keeps_up, example_runs, example_legal, example_starts, example_cycle, example_units, example_paid}
use Rattle.heap_invariant.proofs.cycle_tally.the_example_runs.Goals as goal

pub returns : goal.returns
returns g = record {
  bounds = bounds;
  room = room;
  rate = keeps_up;
  events = example_runs;
  legal = example_legal;
  starts = example_starts;
  cycle = example_cycle;
  units = example_units;
  paid = example_paid;
}
