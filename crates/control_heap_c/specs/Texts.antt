-- What a call from C does that writes the graph of a heap as a text.
use Rattle.std.specs.Prelude.{ℕ, ◌≡◌, Option, Some, None, Result, Ok, Err, List}
use Rattle.control_heap.specs.Controls.{Control}
use Rattle.control_heap_c.specs.Buffers.{HasNoRoom, HasWritten}
use Rattle.control_heap_c.specs.Outcomes.{heap_in}
use Rattle.control_heap_c.specs.declared.owned.Owned.{Owned}
use Rattle.control_heap_c.specs.declared.texts.TextRefusal.{TextRefusal}
use Rattle.control_heap_c.specs.declared.texts.TextRefusal.TheVariants as texting

-- The caller's memory has a text, which no clause describes, or is unchanged.
abbrev pub HasTold : List ℕ → List ℕ → Result ℕ TextRefusal → Type 0
HasTold before after (Ok n) = (text : List ℕ) × HasWritten text before after n
HasTold before after (Err (texting.TooSmall n)) = (text : List ℕ) × HasNoRoom text before after n
HasTold before after (Err texting.NoMemory) = after ≡ before
HasTold before after (Err texting.Closed) = ⊥

-- the same of a handle, which may have no heap
abbrev pub HasShown : Option Control → List ℕ → List ℕ → Result ℕ TextRefusal → Type 0
HasShown None before after outcome = (outcome ≡ Err texting.Closed) × (after ≡ before)
HasShown (Some h) before after outcome = HasTold before after outcome

abbrev pub text_status : Result ℕ TextRefusal → ℕ
text_status (Ok n) = 0
text_status (Err texting.Closed) = 1
text_status (Err texting.NoMemory) = 8
text_status (Err (texting.TooSmall n)) = 15

-- what the caller's number is after the call: how many bytes the text has
abbrev pub text_length : Result ℕ TextRefusal → ℕ → ℕ
text_length (Ok n) before = n
text_length (Err (texting.TooSmall n)) before = n
text_length (Err texting.NoMemory) before = before
text_length (Err texting.Closed) before = before

-- A call: what the handle has before and after, the caller's memory and number before and after,
-- and the status. The handle has the same after it.
pub record Shown (old new : Option Owned) (out out' : List ℕ) (length length' status : ℕ)
    : Type 0 where
  pub outcome : Result ℕ TextRefusal
  pub shown : HasShown (heap_in old) out out' outcome
  pub unchanged : new ≡ old
  pub status_is : status ≡ text_status outcome
  pub length_is : length' ≡ text_length outcome length
