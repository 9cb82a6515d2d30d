use Rattle.std.proofs.Common.{refl}
use Rattle.block_store.specs.Widths.{payloads}
use Rattle.grey_steps.proofs.GreyRuleKept.{keeps}
use Rattle.grey_steps.proofs.MarkUnits.{over_holds_none, put_on_empty}
use Rattle.grey_steps.proofs.laws.rows_keep_grey.Goals as goal

pub returns : goal.returns
returns c = record {
  kept = keeps;
  scan = λ e p. refl;
  shade = λ e p x. refl;
  over =
      λ e s over. over_holds_none (payloads e.width) s.row over;
  put = put_on_empty;
}
