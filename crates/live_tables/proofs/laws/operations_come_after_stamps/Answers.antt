use Rattle.live_tables.proofs.rows.Closing.{come_after_stamps}
use Rattle.live_tables.proofs.laws.operations_come_after_stamps.Goals as goal

pub returns : goal.returns
returns g c = come_after_stamps g.K.Table.rows c.is_lawful.ensures
