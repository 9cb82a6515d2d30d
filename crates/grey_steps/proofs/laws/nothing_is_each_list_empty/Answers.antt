use Rattle.std.proofs.Common.{refl}
use Rattle.grey_steps.proofs.GreyRuleKept.{own_first}
use Rattle.grey_steps.specs.Rows.{shading}
use Rattle.grey_steps.proofs.MarkUnits.{nothing_is_zeros, each_is_taken, each_list, shading_ends}
use Rattle.grey_steps.proofs.laws.nothing_is_each_list_empty.Goals as goal

pub returns : goal.returns
returns c = record {
  zeros = nothing_is_zeros;
  taken = each_is_taken;
  own = λ t n low. own_first t n low;
  each =
      each_list;
  shade = λ e p x ws. shading_ends e (shading p x) refl ws;
}
