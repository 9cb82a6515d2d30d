use Rattle.live_tables.proofs.rows.Closing.{stands_behind}
use Rattle.live_tables.proofs.laws.operations_stand_behind_what_was_seen.Goals as goal

pub returns : goal.returns
returns g c = stands_behind g.K.Table.rows c.is_lawful.ensures
