use Rattle.grey_steps.proofs.Reuses.{keeps_reuse}
use Rattle.grey_steps.proofs.reuse.rows_keep_reuse.Goals as goal

pub returns : goal.returns
returns c = keeps_reuse
