use Rattle.rate_plan.proofs.Plans.{found, small}
use Rattle.rate_plan.proofs.one_rate.Goals as goal

pub returns-clause-found : goal.returns-clause-found
returns-clause-found c = found

pub returns-clause-small : goal.returns-clause-small
returns-clause-small c = small
