use Rattle.rt_check.proofs.rt_limit.CountLaws.{moment_most}
use Rattle.rt_check.proofs.rt_limit.OneThread.{most_reached}
use Rattle.rt_check.proofs.rt_limit.laws.most_live_is_the_greatest.Goals as goal

pub returns-clause-reached : goal.returns-clause-reached
returns-clause-reached c = most_reached

pub returns-clause-never_more : goal.returns-clause-never_more
returns-clause-never_more c = moment_most
