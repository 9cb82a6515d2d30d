-- What a rate is, and for what a heap that has one has room.
use Rattle.std.proofs.Common.{◌≡◌, ℕ, arith, ◌≤◌}
use Rattle.block_store.specs.declared.Config.{Config}
use Rattle.block_store.specs.Configs.{IsInBounds}
use Rattle.block_store.specs.Registers.{registers_end}
use Rattle.rate_plan.specs.Rates.{IsRate, IsAdmitted}
use Rattle.rate_plan.proofs.Plans.{small}

-- there is one rate
pub one_rate : (c : Config) (p q : ℕ) → IsRate c p → IsRate c q → p ≡ q
one_rate c p q a b = let low = a.least q b.some b.enough in let high = b.least p a.some a.enough in omega arith

-- a rate is below 2 ^ 17
pub rate_low : (c : Config) (rate : ℕ) → IsInBounds c → IsAdmitted c → IsRate c rate → rate ≤ 131070
rate_low c rate bounds plan is = let s = small c rate plan is in omega (arith, bounds.blocks)

-- the registers of all threads have blocks
pub opening_room : (c : Config) → IsAdmitted c → registers_end c.width c.threads ≤ c.blocks
opening_room c plan = omega (arith, plan.opens, plan.room)
