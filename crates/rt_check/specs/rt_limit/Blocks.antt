-- How many blocks a rate takes.
use Rattle.std.specs.Prelude.{ℕ, ◌≡◌, ◌<◌, ◌≤◌}
use Rattle.block_store.specs.declared.Config.{Config}
use Rattle.block_store.specs.Configs.{IsInBounds}
use Rattle.rate_plan.specs.Rates.{IsAdmitted, IsRate}
use Rattle.rt_check.specs.declared.rt_limit.blocks.Least.{Least}

-- a heap for the same threads and objects, with so many blocks and this live limit
abbrev pub with_limits : Config → ℕ → ℕ → Config
with_limits c blocks live = record c { blocks = blocks; live = live }

-- with so many blocks, and this live limit, it has a rate of at most p
pub record HasRate (c : Config) (live p blocks : ℕ) : Type 0 where
  pub in_bounds : IsInBounds (with_limits c blocks live)
  pub admitted : IsAdmitted (with_limits c blocks live)
  pub rate : ℕ
  pub is_rate : IsRate (with_limits c blocks live) rate
  pub low : rate ≤ p

-- so many blocks are the least with such a rate
pub record IsLeastBlocks (c : Config) (live p blocks : ℕ) : Type 0 where
  pub enough : HasRate c live p blocks
  pub least : (k : ℕ) → HasRate c live p k → blocks ≤ k

-- the heap with the least blocks for rate p has this rate, which is more than q
pub record IsNewHeap (c : Config) (live q p : ℕ) (x : Least) : Type 0 where
  pub least : IsLeastBlocks c live p x.heap.blocks
  pub heap : x.heap ≡ with_limits c x.heap.blocks live
  pub rate : IsRate x.heap x.rate
  pub above : q < x.rate

-- a heap with the least blocks for rate p has the rate q already, or there is none
abbrev pub IsToldBefore : Config → ℕ → ℕ → ℕ → Type 0
IsToldBefore c live q p = (m : ℕ) → IsLeastBlocks c live p m → HasRate c live q m
