use Rattle.std.proofs.Common.{refl}
use Rattle.sweep_steps.proofs.ReuseRulesKept.{keeps_reuse, over_holds_none, puts_on_empty}
use Rattle.sweep_steps.proofs.FreedBlocks.{keeps_sweeping}
use Rattle.sweep_steps.proofs.laws.rows_keep_reuse.Goals as goal

pub returns : goal.returns
returns c = record {
  kept = keeps_reuse;
  sweeping = keeps_sweeping;
  first = λ t c m owed. refl;
  over = over_holds_none;
  put = puts_on_empty;
}
