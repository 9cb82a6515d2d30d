use Rattle.live_tables.proofs.rows.Tables.{starts}
use Rattle.live_tables.proofs.worker.TableWorkerRowThread.wrap.Goals as goal

pub invariant_of-result : goal.invariant_of-result
invariant_of-result g c =
    starts g.K.Table.rows c.is_lawful.ensures g.K.Table.Keeps g.K.Table.HasShape c.start.result
    c.start.ensures c.args.worker c.requires
