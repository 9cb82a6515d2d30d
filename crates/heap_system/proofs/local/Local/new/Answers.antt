use Rattle.std.proofs.Common.{arith}
use Rattle.rate_plan.proofs.Rates.{rate_low}
use Rattle.heap_system.proofs.local.Local.new.Goals as goal

pub new-requires-clause-rate : goal.new-requires-clause-rate
new-requires-clause-rate c = (omega (arith, (c.in-Ok.ensures.1).some), rate_low c.args.c.now c.in-Ok.rate c.requires.bounds c.requires.plan c.in-Ok.ensures.1)

pub first_price-price-requires-clause-rate : goal.first_price-price-requires-clause-rate
first_price-price-requires-clause-rate c = rate_low c.args.c.now c.in-Ok.rate c.requires.bounds c.requires.plan c.in-Ok.ensures.1
