use Rattle.std.proofs.Common.{refl}
use Rattle.grey_steps.proofs.MarkUnits.{unit_after, unit_once, unit_event, unit_grey}
use Rattle.grey_steps.proofs.laws.a_unit_is_a_blackening.Goals as goal

pub returns : goal.returns
returns c = record {
  scan = λ p. refl;
  shade = λ p x. refl;
  after = unit_after;
  once = unit_once;
  event =
      unit_event;
  grey = unit_grey;
}
