use Rattle.rt_check.proofs.rt_limit.OneOrder.{never_full}
use Rattle.rt_check.proofs.rt_limit.OneThread.{needs_never_full}
use Rattle.rt_check.proofs.rt_limit.laws.enough_is_never_full.Goals as goal

pub returns-clause-most : goal.returns-clause-most
returns-clause-most c config rate trace h few run = never_full config rate trace few h run

pub returns-clause-told : goal.returns-clause-told
returns-clause-told c = needs_never_full
