use Rattle.grey_steps.proofs.Solids.{keeps_solid}
use Rattle.grey_steps.proofs.laws.rows_keep_solid.Goals as goal

pub returns : goal.returns
returns c = keeps_solid
