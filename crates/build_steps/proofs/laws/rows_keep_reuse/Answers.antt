use Rattle.std.proofs.Common.{refl}
use Rattle.build_steps.proofs.ReuseRulesKept.{keeps_reuse, over_holds_none}
use Rattle.build_steps.proofs.laws.rows_keep_reuse.Goals as goal

pub returns : goal.returns
returns c = record {
  kept = keeps_reuse;
  first = λ w t n c serial k capacity. refl;
  over = over_holds_none;
}
