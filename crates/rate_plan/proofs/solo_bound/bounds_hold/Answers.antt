use Rattle.rate_plan.proofs.solo_bound.Prices.{within, exactly, one_event}
use Rattle.rate_plan.proofs.solo_bound.bounds_hold.Goals as goal

pub returns-clause-allocation : goal.returns-clause-allocation
returns-clause-allocation c = within

pub returns-clause-exact : goal.returns-clause-exact
returns-clause-exact c = exactly

pub returns-clause-one_event : goal.returns-clause-one_event
returns-clause-one_event c = one_event
