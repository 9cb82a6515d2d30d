-- Which events pass a block, free one and put a private list, and which blocks a part claims and
-- passes.
use Rattle.std.specs.Prelude.{ℕ, zero, suc, ◌+◌, ◌-◌, ◌==◌, Bool, true, false, if◌then◌else◌, Option, Some, None, List, [], ◌∷◌, ◌++◌, is_some}
use Rattle.block_store.specs.Colours.{white_word}
use Rattle.block_store.specs.Places.{Place, Cursor, FreeCount, FreeList, ColourOf}
use Rattle.heap_machine.specs.WorkInHand.{WorkInHand}
use Rattle.heap_machine.specs.declared.Outcome.{Outcome}
use Rattle.sweep_steps.specs.declared.rows.SweepRow.{SweepRow}
use Rattle.sweep_steps.specs.declared.rows.SweepRow.TheVariants.{ReadCursor, ClaimRange, PassBlock, FreeBlock, PutFree}
use Rattle.sweep_steps.specs.Rows.{SweepState, sweep_got, sweep_step, sweep_in_hand}

-- the event passes this block: it read a block that is not white, or freed one
abbrev pub row_passes : ℕ → SweepRow → ℕ → Option ℕ
row_passes c (PassBlock x high passed list freed) w = if w == white_word c then None else Some x
row_passes c (FreeBlock x high passed list freed) w = Some x
row_passes c r w = None

-- what an event is: its step, and whether it makes a unit
abbrev pub sweep_outcome : SweepState → ℕ → Outcome
sweep_outcome s w = record { step = sweep_step s w; unit = is_some (row_passes s.cycle s.row w) }

abbrev pub is_reading : SweepRow → Bool
is_reading ReadCursor = true
is_reading _ = false

abbrev pub is_freeing : SweepRow → Bool
is_freeing (FreeBlock x high passed list freed) = true
is_freeing _ = false

abbrev pub is_putting : SweepRow → Bool
is_putting (PutFree list passed freed) = true
is_putting _ = false

-- n blocks from x on
abbrev pub blocks_from : ℕ → ℕ → List ℕ
blocks_from x zero = []
blocks_from x (suc n) = x ∷ blocks_from (x + 1) n

-- the blocks that the event claims
abbrev pub row_claims : SweepRow → ℕ → List ℕ
row_claims (ClaimRange x high) w = if w == x then blocks_from x (high - x) else []
row_claims r w = []

-- how many blocks a thread has claimed and not yet passed
abbrev pub unpassed : WorkInHand → ℕ
unpassed w = w.high - w.low

-- those of them before the event of a row
abbrev pub blocks_left : SweepRow → List ℕ
blocks_left r = blocks_from (sweep_in_hand r).low (unpassed (sweep_in_hand r))

-- the state after events that read these words, in this order
abbrev pub sweep_after : SweepState → List ℕ → SweepState
sweep_after s [] = s
sweep_after s (w ∷ ws) = sweep_after (sweep_got s w) ws

-- x in front of the list, where there is one
abbrev pub with_first : Option ℕ → List ℕ → List ℕ
with_first None xs = xs
with_first (Some x) xs = x ∷ xs

-- the blocks that these events pass, and those that they claim, in this order
abbrev pub blocks_passed : SweepState → List ℕ → List ℕ
blocks_passed s [] = []
blocks_passed s (w ∷ ws) =
    with_first (row_passes s.cycle s.row w) (blocks_passed (sweep_got s w) ws)

abbrev pub blocks_claimed : SweepState → List ℕ → List ℕ
blocks_claimed s [] = []
blocks_claimed s (w ∷ ws) = row_claims s.row w ++ blocks_claimed (sweep_got s w) ws

-- the places of the heap that no event of the sweep writes
abbrev pub is_unswept : Place → Bool
is_unswept Cursor = false
is_unswept FreeCount = false
is_unswept (FreeList t) = false
is_unswept (ColourOf x) = false
is_unswept _ = true
