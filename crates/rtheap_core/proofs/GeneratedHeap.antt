-- The heap of a generated job: its objects, and its rate.
use Rattle.std.proofs.Common.{ℕ, zero, suc, ◌*◌, ◌<◌, ◌≤◌, arith}
use Rattle.block_store.specs.declared.Width.TheVariants.{Four}
use Rattle.block_store.specs.Configs.{IsInBounds}
use Rattle.array_trees.specs.Trees.{array_blocks, tree}
use Rattle.rate_plan.specs.Rates.{KeepsUp, IsRate, IsAdmitted}
use Rattle.rtheap_core.specs.Generated.{generated_config}

-- a generated array has few blocks
pub arrays_fit : (k : ℕ) → k < 8 → array_blocks Four (4 * k) ≤ 16
unfolding tree
arrays_fit zero lt = omega arith
arrays_fit (suc zero) lt = omega arith
arrays_fit (suc (suc zero)) lt = omega arith
arrays_fit (suc (suc (suc zero))) lt = omega arith
arrays_fit (suc (suc (suc (suc zero)))) lt = omega arith
arrays_fit (suc (suc (suc (suc (suc zero))))) lt = omega arith
arrays_fit (suc (suc (suc (suc (suc (suc zero)))))) lt = omega arith
arrays_fit (suc (suc (suc (suc (suc (suc (suc zero))))))) lt = omega arith
arrays_fit (suc (suc (suc (suc (suc (suc (suc (suc k)))))))) lt = absurd (omega arith)

pub in_bounds : IsInBounds generated_config
in_bounds = record {
  some_thread = omega arith;
  threads = omega arith;
  some_block = omega arith;
  blocks = omega arith;
  live = omega arith;
  some_object = omega arith;
  object = omega arith;
  shared = omega arith;
}

pub admitted : IsAdmitted generated_config
unfolding tree
admitted = record { opens = omega arith; room = omega arith }

-- fewer units for each block are not enough
nine : (k : ℕ) → 1 ≤ k → KeepsUp generated_config k → 9 ≤ k
nine zero some enough = absurd (omega arith)
nine (suc zero) some enough = absurd (omega arith)
nine (suc (suc zero)) some enough = absurd (omega arith)
nine (suc (suc (suc zero))) some enough = absurd (omega arith)
nine (suc (suc (suc (suc zero)))) some enough = absurd (omega arith)
nine (suc (suc (suc (suc (suc zero))))) some enough = absurd (omega arith)
nine (suc (suc (suc (suc (suc (suc zero)))))) some enough = absurd (omega arith)
nine (suc (suc (suc (suc (suc (suc (suc zero))))))) some enough = absurd (omega arith)
nine (suc (suc (suc (suc (suc (suc (suc (suc zero)))))))) some enough = absurd (omega arith)
nine (suc (suc (suc (suc (suc (suc (suc (suc (suc k))))))))) some enough = omega arith

pub rate : IsRate generated_config 9
rate = record { some = omega arith; enough = omega arith; least = nine }
