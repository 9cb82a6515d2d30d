-- The tricolour rule of marking: no black block refers to a white one. In the middle of a scan or a
-- store the rule also holds of what that thread has dealt with.
use Rattle.std.specs.Prelude.{ℕ, ◌≡◌, ◌≢◌, ◌<◌, ◌⊎◌, Bool, true, false}
use Rattle.block_store.specs.Colours.{white_word, black_word}
use Rattle.block_store.specs.Heaps.{Heap}
use Rattle.block_store.specs.Payloads.{target}
use Rattle.block_store.specs.Phases.{is_sweep, cycle_of}
use Rattle.block_store.specs.Widths.{payloads}
use Rattle.block_store.specs.Places.{Extent, Place, Phase, ColourOf, PayloadOf}

-- what a thread holds of the rule: the block that it scans, and how many of its payloads it has
-- dealt with; the block that it has found in the next payload and not yet shaded; and the block
-- that it has shaded before it stores a reference to it. Each block is 0 where there is none
pub record TricolourInHand : Type 0 where
  pub scan : ℕ
  pub dealt : ℕ
  pub found : ℕ
  pub shaded : ℕ

-- it holds nothing
abbrev pub no_tricolour : TricolourInHand
no_tricolour = record { scan = 0; dealt = 0; found = 0; shaded = 0 }

-- in this cycle, with these colour words, y is no white block; 0 is no block
abbrev pub NotWhite : ℕ → (ℕ → ℕ) → ℕ → Type 0
NotWhite cycle colour y = y ≢ 0 → colour y ≢ white_word cycle

-- over the cycle, the payloads of a block, the colour words, the payload words, and what each of n
-- threads holds. The payload in which a block was found may since have been overwritten by another
-- thread
pub record TricolourOf (n cycle width : ℕ) (colour : ℕ → ℕ) (payload : ℕ → ℕ → ℕ) (hs : ℕ
    → TricolourInHand) : Type 0 where
  pub black : (x j : ℕ) → colour x ≡ black_word cycle → j < width
      → NotWhite cycle colour (target (payload x j))
  pub dealt : (t i : ℕ) → t < n → i < (hs t).dealt
      → NotWhite cycle colour (target (payload (hs t).scan i))
  pub found : (t : ℕ) → t < n → (hs t).found ≢ 0
      → (target (payload (hs t).scan (hs t).dealt) ≡ (hs t).found)
      ⊎ NotWhite cycle colour (target (payload (hs t).scan (hs t).dealt))
  pub shaded : (t : ℕ) → t < n → NotWhite cycle colour (hs t).shaded

-- of a heap in this cycle
abbrev pub TricolourKept : Extent → ℕ → Heap → (ℕ → TricolourInHand) → Type 0
TricolourKept e cycle h hs = TricolourOf e.threads cycle (payloads e.width) (λ x. h (ColourOf x))
    (λ x j. h (PayloadOf x j)) hs

-- while the phase is Mark, in the cycle of the phase word
abbrev pub Tricolour : Extent → Heap → (ℕ → TricolourInHand) → Type 0
Tricolour e h hs = is_sweep (h Phase) ≡ false → TricolourKept e (cycle_of (h Phase)) h hs

-- the places whose words the rule speaks of
abbrev pub is_of_tricolour : Place → Bool
is_of_tricolour (ColourOf x) = true
is_of_tricolour (PayloadOf x j) = true
is_of_tricolour _ = false
