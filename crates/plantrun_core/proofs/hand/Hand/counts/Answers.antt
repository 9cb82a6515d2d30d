use Rattle.std.proofs.Common.{refl}
use Rattle.plantrun_core.proofs.WorkerLogs.{hand_same}
use Rattle.plantrun_core.proofs.hand.Hand.counts.Goals as goal

pub returns-clause-own : goal.returns-clause-own
returns-clause-own c t is = hand_same t c.args.self.now _ is refl refl
