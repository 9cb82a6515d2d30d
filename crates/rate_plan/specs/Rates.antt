-- The rate: how many units of marking and sweeping an allocation makes for each block that it asks
-- for.
use Rattle.std.specs.Prelude.{ℕ, List, codes, ◌+◌, ◌-◌, ◌*◌, ◌/◌, ◌<◌, ◌≤◌}
use Rattle.block_store.specs.declared.Config.{Config}
use Rattle.array_trees.specs.InitialHeaps.{opening_blocks}
use Rattle.rate_plan.specs.declared.PlanFault.{PlanFault}
use Rattle.rate_plan.specs.declared.PlanFault.TheVariants.{NoRate, LiveTooSmall}

-- x divided by y and rounded up
abbrev pub ceiling : ℕ → ℕ → ℕ
ceiling x y = (x + (y - 1)) / y

-- p units for each block are to be enough for a cycle to end before the blocks are used up: a cycle
-- has at most 2 units for each block of the heap, so it should last for at most
-- ceiling (2 * blocks) p blocks, and one allocation more of each thread.
abbrev pub KeepsUp : Config → ℕ → Type 0
KeepsUp c p = c.live + 2 * (ceiling (2 * c.blocks) p + c.threads * c.object) ≤ c.blocks

-- the least whole number, at least 1, that keeps up
pub record IsRate (c : Config) (p : ℕ) : Type 0 where
  pub some : 1 ≤ p
  pub enough : KeepsUp c p
  pub least : (k : ℕ) → 1 ≤ k → KeepsUp c k → p ≤ k

-- the heap opens with no more blocks than may be live, and there is room for a cycle of one block
pub record IsAdmitted (c : Config) : Type 0 where
  pub opens : opening_blocks c ≤ c.live
  pub room : c.live + 2 * (1 + c.threads * c.object) ≤ c.blocks

-- when each refusal comes
abbrev pub IsRefusal : Config → PlanFault → Type 0
IsRefusal c LiveTooSmall = c.live < opening_blocks c
IsRefusal c NoRate =
    (opening_blocks c ≤ c.live) × (c.blocks < c.live + 2 * (1 + c.threads * c.object))

-- the printed text of a refusal
abbrev pub plan_fault_text : PlanFault → List ℕ
plan_fault_text LiveTooSmall =
    codes "the registers and the shared array exceed the live limit; raise `live`"
plan_fault_text NoRate =
    codes "the live limit leaves too few blocks; raise `blocks`, or lower `live`"
