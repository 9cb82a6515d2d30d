use Rattle.rate_plan.proofs.Rates.{rate_low}
use Rattle.heap_system.proofs.accounting.OwedAndPaid.{view_of}
use Rattle.heap_system.proofs.local.Local.owes.Goals as goal

pub price_of-requires-clause-rate : goal.price_of-requires-clause-rate
price_of-requires-clause-rate c = let k = c.self.invariant.0 in rate_low (view_of c.self.inside).config (view_of c.self.inside).rate k.bounds k.plan k.rate
