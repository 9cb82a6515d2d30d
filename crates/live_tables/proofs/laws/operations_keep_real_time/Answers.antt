use Rattle.live_tables.proofs.rows.Closing.{are_in_order, come_after}
use Rattle.live_tables.proofs.laws.operations_keep_real_time.Goals as goal

pub returns-clause-after : goal.returns-clause-after
returns-clause-after g c = come_after g.K.Table.rows c.is_lawful.ensures

pub returns-clause-either : goal.returns-clause-either
returns-clause-either g c = are_in_order g.K.Table.rows
