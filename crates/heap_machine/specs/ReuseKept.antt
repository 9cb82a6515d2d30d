-- What a heap keeps in both phases, so that blocks that nothing reaches are used again: where its
-- Free blocks are, what is claimed, and what was passed.
use Rattle.std.specs.Prelude.{ℕ, ◌||◌, Bool}
use Rattle.block_store.specs.Heaps.{Heap}
use Rattle.block_store.specs.Places.{Extent, Place}
use Rattle.heap_machine.specs.FreeBlocks.{FreeKept, is_of_free}
use Rattle.heap_machine.specs.WorkInHand.{WorkInHand, free_held, sweep_held}
use Rattle.heap_machine.specs.Sweeping.{SweepKept, is_of_sweep}

pub record ReuseKept (e : Extent) (h : Heap) (hs : ℕ → WorkInHand) : Type 0 where
  pub free : FreeKept e h (λ t. free_held (hs t))
  pub sweep : SweepKept e h (λ t. sweep_held (hs t))

-- the places whose words these rules speak of
abbrev pub is_of_reuse : Place → Bool
is_of_reuse p = is_of_free p || is_of_sweep p
