use Rattle.heap_invariant.proofs.cycle_tally.Example.{tight_bounds, tight_room, tight_keeps_up, full_runs, full_legal, full_is_there}
use Rattle.heap_invariant.proofs.cycle_tally.a_full_can_come.Goals as goal

pub returns : goal.returns
returns g = record {
  bounds = tight_bounds;
  room = tight_room;
  rate = tight_keeps_up;
  events = full_runs;
  legal = full_legal;
  full = full_is_there;
}
