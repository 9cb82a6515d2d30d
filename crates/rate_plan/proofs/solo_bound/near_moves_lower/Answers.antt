use Rattle.rate_plan.proofs.solo_bound.Near.{lower}
use Rattle.rate_plan.proofs.solo_bound.near_moves_lower.Goals as goal

pub returns : goal.returns
returns c = λ e m wide some s z h. lower e m wide some s.lone.spot s z h.moves h.keeps
