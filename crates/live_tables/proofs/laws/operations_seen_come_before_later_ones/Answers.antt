use Rattle.live_tables.proofs.rows.RealTime.{seen_before_later}
use Rattle.live_tables.proofs.laws.operations_seen_come_before_later_ones.Goals as goal

pub returns : goal.returns
returns g c = seen_before_later g.K.Table.rows
