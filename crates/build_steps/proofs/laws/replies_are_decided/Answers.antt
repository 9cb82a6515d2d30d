use Rattle.build_steps.proofs.LinearizationPoints.{
  present,
  decided_after,
  last_after,
  refused_after,
  built_after,
  full_is,
  new_is,
  cycle_before,
}
use Rattle.build_steps.proofs.laws.replies_are_decided.Goals as goal

pub returns : goal.returns
returns c = record {
  present = present;
  decided = decided_after;
  last = last_after;
  refused = refused_after;
  built = built_after;
  full = full_is;
  new = new_is;
  cycle = cycle_before;
}
