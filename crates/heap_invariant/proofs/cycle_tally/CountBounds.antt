-- How large the counts of a run get.
use Rattle.std.proofs.Common.{ℕ, ◌+◌, ◌-◌, ◌*◌, ◌^◌, ◌≤◌, ◌<◌, arith}
use Rattle.std.proofs.lemmas.Nat.{mul-le}
use Rattle.block_store.specs.declared.Config.{Config}
use Rattle.never_heap.specs.Histories.{work_in}
use Rattle.heap_invariant.specs.cycle_tally.Tallies.{Tally, units, made_now}
use Rattle.heap_invariant.specs.cycle_tally.Bounds.{Bound}

module _ (c : Config) (rate : ℕ) (s : Tally) (b : Bound c rate s)
    (blocks : 0 < c.blocks) (few : work_in s.order + made_now c.threads s < 2 ^ 50 - 1) where
  pub counts_small : (units c.blocks s < 2 ^ 50) × (s.cycle < 2 ^ 50)
  counts_small =
      let one : (s.cycle - 1) * 1 ≤ (s.cycle - 1) * c.blocks =
      mul-le (s.cycle - 1) 1 (s.cycle - 1) c.blocks (omega arith) blocks in
      (omega (arith, few, b.works), omega (arith, few, b.works, b.few))
