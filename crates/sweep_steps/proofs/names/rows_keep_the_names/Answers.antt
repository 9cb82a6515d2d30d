use Rattle.sweep_steps.proofs.Pictures.{keeps_names}
use Rattle.sweep_steps.proofs.names.rows_keep_the_names.Goals as goal

pub returns : goal.returns
returns c = keeps_names
