use Rattle.std.proofs.Common.{refl}
use Rattle.build_steps.proofs.BuildOfState.{over_builds_none, holds_build}
use Rattle.build_steps.proofs.names.states_build_what_they_hold.Goals as goal

pub returns : goal.returns
returns c = record {
  first = λ w t n cycle serial k capacity. refl;
  over = over_builds_none;
  held = holds_build;
}
