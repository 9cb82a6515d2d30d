-- Which event is a unit of marking, which rows shade a block before a store, and what was read
-- where a part has found nothing.
use Rattle.std.specs.Prelude.{ℕ, zero, suc, ◌==◌, ◌&&◌, Bool, true, false, List, [], ◌∷◌}
use Rattle.block_store.specs.Places.{Extent}
use Rattle.heap_machine.specs.declared.Outcome.{Outcome}
use Rattle.grey_steps.specs.declared.rows.GreyRow.{GreyRow}
use Rattle.grey_steps.specs.declared.rows.GreyRow.TheVariants.{Blacken, Put, TakeOwn, ShadeStored, PutOwn, Shaded}
use Rattle.grey_steps.specs.Rows.{GreyState, grey_got, grey_step}

-- the event that makes the block under scan black
abbrev pub is_blackening : GreyRow → Bool
is_blackening (Blacken x list) = true
is_blackening _ = false

-- what an event is: its step, and whether it makes a unit
abbrev pub grey_outcome : Extent → GreyState → ℕ → Outcome
grey_outcome e s w = record { step = grey_step e s w; unit = is_blackening s.row }

-- the events that put a private list in the thread's own list
abbrev pub is_putting : GreyRow → Bool
is_putting (Put list) = true
is_putting (PutOwn y list) = true
is_putting _ = false

-- the rows of the write barrier; the others are those of a scan
abbrev pub is_shading : GreyRow → Bool
is_shading (TakeOwn y) = true
is_shading (ShadeStored y list) = true
is_shading (PutOwn y list) = true
is_shading (Shaded y) = true
is_shading _ = false

-- the block to which a command is about to store a reference, or 0 in a scan
abbrev pub block_stored : GreyRow → ℕ
block_stored (TakeOwn y) = y
block_stored (ShadeStored y list) = y
block_stored (PutOwn y list) = y
block_stored (Shaded y) = y
block_stored _ = 0

-- the state after events that read these words, in this order
abbrev pub grey_after : Extent → GreyState → List ℕ → GreyState
grey_after e s [] = s
grey_after e s (w ∷ ws) = grey_after e (grey_got e s w) ws

-- the first n words are there, and each is 0
abbrev pub begins_with_zeros : ℕ → List ℕ → Bool
begins_with_zeros zero ws = true
begins_with_zeros (suc n) [] = false
begins_with_zeros (suc n) (w ∷ ws) = (w == 0) && begins_with_zeros n ws
