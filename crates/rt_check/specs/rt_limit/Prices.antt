-- What a heap costs.
use Rattle.std.specs.Prelude.{ℕ, ◌+◌, ◌-◌, ◌*◌, ◌/◌, ◌<◌, ◌^◌, min, Option, SomeIff}
use Rattle.block_store.specs.declared.Config.{Config}
use Rattle.block_store.specs.Widths.{payloads}
use Rattle.rate_plan.specs.solo_bound.Near.{changes_cost, near_bound, near_unit}

-- the most turns of an allocation of k blocks, of a thread that alone has turns
abbrev pub turns : Config → ℕ → ℕ → ℕ
turns c rate k = near_bound c.threads (payloads c.width) c.blocks (rate * k) k

-- the turns of r units, and of the changes of phase among them
abbrev pub collecting : Config → ℕ → ℕ
collecting c r = r * near_unit (payloads c.width) + changes_cost c.threads c.blocks r

-- it is this number, where that has 64 bits, and else it is none
abbrev pub IsInWord : Option ℕ → ℕ → Type 0
IsInWord o n = SomeIff o (n < 2 ^ 64) n

-- objects of one block in a year of 31,557,600 seconds, at ten a millisecond
abbrev pub objects_a_year : ℕ
objects_a_year = 315576000000

-- the whole years of a life of such objects, which ends with its units or with its objects
abbrev pub years : ℕ → ℕ
years rate = min (2 ^ 45 / (rate * objects_a_year)) ((2 ^ 43 - 1) / objects_a_year)
