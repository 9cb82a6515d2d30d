use Rattle.live_tables.proofs.tags.FewOperations.{few_leave_life}
use Rattle.live_tables.proofs.tags.life.few_operations_leave_life.Goals as goal

pub returns : goal.returns
returns _ = few_leave_life
