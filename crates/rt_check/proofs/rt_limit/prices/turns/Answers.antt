use Rattle.std.proofs.Common.{ℕ, ◌<◌, ◌≤◌, ◌≡◌, ◌^◌, Option, Some, None, arith}
use Rattle.block_store.specs.declared.Width.{Width}
use Rattle.block_store.specs.declared.Width.TheVariants.{Four, Eight}
use Rattle.block_store.specs.Widths.{payloads}
use Rattle.rate_plan.specs.solo_bound.Near.{near_bound}
use Rattle.rt_check.specs.rt_limit.Prices.{IsInWord}
use Rattle.rate_plan.proofs.solo_bound.NearSmall.{near_small}
use Rattle.rt_check.proofs.rt_limit.prices.turns.Goals as goal

narrow : (w : Width) → payloads w ≤ 8
narrow Four = omega arith
narrow Eight = omega arith

-- a number of 64 bits is not none
there : (o : Option ℕ) (n : ℕ) → IsInWord o n → n < 2 ^ 64 → o ≡ None → ⊥
there None n is low none = is low
there (Some x) n is low none = absurd cc

pub unreachable-requires : goal.unreachable-requires
unreachable-requires c =
    let heap = c.args.heap.now in
    let bound : ℕ = near_bound heap.threads (payloads heap.width) heap.blocks c.units_of.result c.args.blocks in
    there c.near_turns.result bound c.near_turns.ensures
    (near_small heap.threads (payloads heap.width) heap.blocks c.units_of.result c.args.blocks
    c.requires.heap.threads (narrow heap.width) c.units_of.ensures.few c.requires.blocks)
    c.in_default.is
