use Rattle.live_tables.proofs.rows.Stamped.{stamps_keep_order}
use Rattle.live_tables.proofs.laws.stamps_keep_order.Goals as goal

pub returns : goal.returns
returns g c = stamps_keep_order g.K.Table.rows
