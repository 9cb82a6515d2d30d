use Rattle.plantrun_core.proofs.WorkerLogs.{first_hand}
use Rattle.plantrun_core.proofs.crew.hand_of.Goals as goal

pub returns-clause-worker : goal.returns-clause-worker
returns-clause-worker c =
    first_hand c.args.table.now c.args.thread c.stamp.result c.args.who _ c.requires.config
    c.requires.own c.requires.fresh c.stamp.ensures.drawn c.stamp.ensures.all c.in-Ok.ensures.items
