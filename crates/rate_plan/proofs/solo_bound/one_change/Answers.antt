use Rattle.rate_plan.proofs.solo_bound.Fresh.{fresh}
use Rattle.rate_plan.proofs.solo_bound.one_change.Goals as goal

pub returns-clause-goes_on : goal.returns-clause-goes_on
returns-clause-goes_on c = λ e s z h f. fresh e s.spot s z h f
