-- While the phase is Mark no block that is not Free refers to a Free one, and each root block is
-- marked.
use Rattle.std.specs.Prelude.{ℕ, ◌≡◌, ◌≢◌, ◌<◌, ◌⊎◌, true, false}
use Rattle.block_store.specs.Colours.{is_free, is_grey, black_word}
use Rattle.block_store.specs.Heaps.{Heap}
use Rattle.block_store.specs.Payloads.{target}
use Rattle.block_store.specs.Registers.{root_block}
use Rattle.block_store.specs.Widths.{payloads}
use Rattle.block_store.specs.Places.{Extent, ColourOf, PayloadOf}

-- with these colour words, y is no Free block; 0 is no block
abbrev pub NotFree : (ℕ → ℕ) → ℕ → Type 0
NotFree colour y = y ≢ 0 → is_free (colour y) ≡ false

-- the colour word of a block that is marked in this cycle: grey or black
abbrev pub IsMarked : ℕ → ℕ → Type 0
IsMarked cycle w = (is_grey w ≡ true) ⊎ (w ≡ black_word cycle)

-- over the extent of the heap, the cycle, the colour words and the payload words
pub record SolidOf (e : Extent) (cycle : ℕ) (colour : ℕ → ℕ) (payload : ℕ → ℕ → ℕ) : Type 0 where
  pub solid : (x j : ℕ) → is_free (colour x) ≡ false → j < payloads e.width
      → NotFree colour (target (payload x j))
  pub roots : (t : ℕ) → t < e.threads → IsMarked cycle (colour (root_block e.width t))

-- of a heap in this cycle
abbrev pub SolidKept : Extent → ℕ → Heap → Type 0
SolidKept e cycle h = SolidOf e cycle (λ x. h (ColourOf x)) (λ x j. h (PayloadOf x j))
