use Rattle.rate_plan.proofs.solo_bound.Near.{idle_within, near, near_look, near_other, near_within}
use Rattle.rate_plan.proofs.solo_bound.near_holds.Goals as goal

pub returns-clause-allocation : goal.returns-clause-allocation
returns-clause-allocation c = λ e m r room far sweep wide some. near e m wide some r room far sweep

pub returns-clause-other : goal.returns-clause-other
returns-clause-other c = λ e m r room far sweep wide some.
    near_other e m wide some r room far sweep

pub returns-clause-any : goal.returns-clause-any
returns-clause-any c = λ e m r room far sweep wide some. near_look e m wide some r room far sweep

pub returns-clause-stated : goal.returns-clause-stated
returns-clause-stated c = near_within

pub returns-clause-idle_stated : goal.returns-clause-idle_stated
returns-clause-idle_stated c = idle_within
