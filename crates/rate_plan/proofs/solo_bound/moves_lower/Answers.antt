use Rattle.rate_plan.proofs.solo_bound.Prices.{lower}
use Rattle.rate_plan.proofs.solo_bound.moves_lower.Goals as goal

pub returns : goal.returns
returns c = λ e unit wide price s z h. lower e unit wide price s.spot s z h
