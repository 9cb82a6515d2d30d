use Rattle.grey_steps.proofs.Reuses.{keeps_phase}
use Rattle.grey_steps.proofs.reuse.rows_keep_each_phase.Goals as goal

pub returns : goal.returns
returns c = keeps_phase
