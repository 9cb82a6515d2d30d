-- What a heap keeps in each phase, under all that its threads hold.
use Rattle.std.specs.Prelude.{ℕ, ◌≡◌, false}
use Rattle.block_store.specs.Heaps.{Heap}
use Rattle.block_store.specs.Phases.{is_sweep, cycle_of}
use Rattle.block_store.specs.Places.{Extent, Phase}
use Rattle.heap_machine.specs.Grey.{GreyKept}
use Rattle.heap_machine.specs.WorkInHand.{WorkInHand, grey_held, tricolour_held}
use Rattle.heap_machine.specs.ReuseKept.{ReuseKept}
use Rattle.heap_machine.specs.Solid.{SolidKept}
use Rattle.heap_machine.specs.Tricolour.{TricolourKept}

-- in both phases where grey and Free blocks are, what is claimed and what was passed; and while
-- the phase is Mark, in the cycle of the phase word, the tricolour rule and that only Free blocks
-- refer to Free ones
pub record PhaseKept (e : Extent) (h : Heap) (hs : ℕ → WorkInHand) : Type 0 where
  pub grey : GreyKept e.threads h (λ t. grey_held (hs t))
  pub reuse : ReuseKept e h hs
  pub tricolour : is_sweep (h Phase) ≡ false
      → TricolourKept e (cycle_of (h Phase)) h (λ t. tricolour_held (hs t))
  pub solid : is_sweep (h Phase) ≡ false → SolidKept e (cycle_of (h Phase)) h
