-- What a heap keeps under all that its threads hold: one field for each rule.
use Rattle.std.specs.Prelude.{ℕ, ◌≡◌, ◌≢◌, ◌<◌, ◌||◌, Bool, true, false}
use Rattle.block_store.specs.Colours.{is_free, is_grey, white_word, black_word}
use Rattle.block_store.specs.Heaps.{Heap}
use Rattle.block_store.specs.Payloads.{target}
use Rattle.block_store.specs.Registers.{root_block}
use Rattle.block_store.specs.Widths.{payloads}
use Rattle.block_store.specs.Places.{Extent, Place, ColourOf, PayloadOf}
use Rattle.heap_machine.specs.Grey.{GreyKept, is_of_grey}
use Rattle.heap_machine.specs.WorkInHand.{WorkInHand, grey_held, tricolour_held}
use Rattle.heap_machine.specs.Solid.{NotFree, IsMarked, SolidKept}
use Rattle.heap_machine.specs.Tricolour.{NotWhite, TricolourKept, is_of_tricolour}

pub record HeapKept (e : Extent) (cycle : ℕ) (h : Heap) (hs : ℕ → WorkInHand) : Type 0 where
  pub grey : GreyKept e.threads h (λ t. grey_held (hs t))
  pub tricolour : TricolourKept e cycle h (λ t. tricolour_held (hs t))
  pub solid : SolidKept e cycle h

-- the places whose words some rule speaks of
abbrev pub is_ruled : Place → Bool
is_ruled p = is_of_grey p || is_of_tricolour p

-- a reference to block y may be stored anywhere: it is neither white nor Free; 0 is no block
pub record CanRefer (cycle : ℕ) (h : Heap) (y : ℕ) : Type 0 where
  pub dark : NotWhite cycle (λ z. h (ColourOf z)) y
  pub solid : NotFree (λ z. h (ColourOf z)) y

-- block x may get colour v without a list or a private list
pub record CanColour (e : Extent) (cycle : ℕ) (h : Heap) (x v : ℕ) : Type 0 where
  pub was : is_grey (h (ColourOf x)) ≡ false
  pub not_grey : is_grey v ≡ false
  pub not_white : v ≢ white_word cycle
  pub not_free : is_free v ≡ false
  pub dark : v ≡ black_word cycle → (j : ℕ) → j < payloads e.width
      → NotWhite cycle (λ z. h (ColourOf z)) (target (h (PayloadOf x j)))
  pub solid : is_free (h (ColourOf x)) ≡ true → (j : ℕ) → j < payloads e.width
      → NotFree (λ z. h (ColourOf z)) (target (h (PayloadOf x j)))
  pub root : (t : ℕ) → t < e.threads → x ≡ root_block e.width t → IsMarked cycle v
