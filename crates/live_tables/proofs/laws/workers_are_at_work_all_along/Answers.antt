use Rattle.live_tables.proofs.rows.Within.{work_all_along}
use Rattle.live_tables.proofs.laws.workers_are_at_work_all_along.Goals as goal

pub returns : goal.returns
returns g c = work_all_along g.K.Table.rows
