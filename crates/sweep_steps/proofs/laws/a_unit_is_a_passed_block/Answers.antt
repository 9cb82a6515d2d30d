use Rattle.std.proofs.Common.{refl}
use Rattle.sweep_steps.proofs.PassedBlocks.{unit_passes, passed_bits, passed_few, claimed_due, nothing_read}
use Rattle.sweep_steps.proofs.laws.a_unit_is_a_passed_block.Goals as goal

pub returns : goal.returns
returns c = record {
  first = λ t c m owed. (refl, refl, refl);
  unit = unit_passes;
  passed = passed_bits;
  few = passed_few;
  due = claimed_due;
  nothing = nothing_read;
}
