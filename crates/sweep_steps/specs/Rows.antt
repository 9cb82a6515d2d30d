-- The sweep, as rows of one event each: a thread claims a range of blocks and passes them one by
-- one; a white block is freed as it is passed. What each row wants, and what it becomes on the
-- word that it read.
use Rattle.std.specs.Prelude.{ℕ, ◌+◌, ◌-◌, ◌==◌, nat_lt, min, Bool, true, false, if◌then◌else◌}
use Rattle.block_store.specs.Colours.{white_word, free_word}
use Rattle.block_store.specs.Places.{Phase, Cursor, FreeCount, FreeList, ColourOf}
use Rattle.heap_machine.specs.WorkInHand.{WorkInHand, holds_nothing}
use Rattle.heap_machine.specs.Operations.{Operation, Load, Exchange, CompareExchange, FetchAdd}
use Rattle.heap_machine.specs.declared.Step.{Step}
use Rattle.heap_machine.specs.declared.Step.TheVariants.{Went, Waited, Over}
use Rattle.sweep_steps.specs.declared.rows.SweepRow.{SweepRow}
use Rattle.sweep_steps.specs.declared.rows.SweepRow.TheVariants.{ReadCursor, ClaimRange, PassBlock, TakeFree, FreeBlock, PutFree, Credit, Swept, NothingLeft}

-- a thread that sweeps: the cycle, in which a block is white; how many blocks the heap has; how
-- many units the thread owed as the pass began; and its row
pub record SweepState : Type 0 where
  pub thread : ℕ
  pub cycle : ℕ
  pub blocks : ℕ
  pub owed : ℕ
  pub row : SweepRow

-- the operation of a row of thread t in cycle c. A part that is over would look at the phase once
-- more
abbrev pub row_want : ℕ → ℕ → SweepRow → Operation
row_want t c ReadCursor = Load Cursor
row_want t c (ClaimRange x high) = CompareExchange Cursor x high
row_want t c (PassBlock x high passed list freed) = Load (ColourOf x)
row_want t c (TakeFree x high passed) = Exchange (FreeList t) 0
row_want t c (FreeBlock x high passed list freed) = Exchange (ColourOf x) (free_word list)
row_want t c (PutFree list passed freed) = Exchange (FreeList t) list
row_want t c (Credit passed freed) = FetchAdd FreeCount freed
row_want t c (Swept passed freed) = Load Phase
row_want t c NothingLeft = Load Phase

-- the range that is claimed from block x on: at most eight blocks, none after the last of m, and
-- no more than are owed
abbrev pub range_end : ℕ → ℕ → ℕ → ℕ
range_end m owed x = x + min 8 (min (m + 1 - x) owed)

-- after the cursor was read
abbrev pub after_read : ℕ → ℕ → ℕ → SweepRow
after_read m owed w = if nat_lt m w then NothingLeft else ClaimRange w (range_end m owed w)

-- after the range from block x on was to be claimed: only where the cursor was still there
abbrev pub after_claim : ℕ → ℕ → ℕ → SweepRow
after_claim x high w = if w == x then PassBlock x high 0 0 0 else ReadCursor

-- the end of the range: what was freed is put
abbrev pub after_range : ℕ → ℕ → ℕ → SweepRow
after_range passed list freed = if freed == 0 then Swept passed 0 else PutFree list passed freed

-- after block x was passed
abbrev pub next_block : ℕ → ℕ → ℕ → ℕ → ℕ → SweepRow
next_block x high passed list freed =
    if nat_lt (x + 1) high then PassBlock (x + 1) high (passed + 1) list freed
    else after_range (passed + 1) list freed

-- where block x is white: the own list is taken before the first block is freed
abbrev pub before_free : ℕ → ℕ → ℕ → ℕ → ℕ → SweepRow
before_free x high passed list freed =
    if freed == 0 then TakeFree x high passed else FreeBlock x high passed list freed

-- the row after it, where it read w
abbrev pub row_got : ℕ → ℕ → ℕ → SweepRow → ℕ → SweepRow
row_got c m owed ReadCursor w = after_read m owed w
row_got c m owed (ClaimRange x high) w = after_claim x high w
row_got c m owed (PassBlock x high passed list freed) w =
    if w == white_word c then before_free x high passed list freed
    else next_block x high passed list freed
row_got c m owed (TakeFree x high passed) w = FreeBlock x high passed w 0
row_got c m owed (FreeBlock x high passed list freed) w = next_block x high passed x (freed + 1)
row_got c m owed (PutFree list passed freed) w = Credit passed freed
row_got c m owed (Credit passed freed) w = Swept passed freed
row_got c m owed (Swept passed freed) w = Swept passed freed
row_got c m owed NothingLeft w = NothingLeft

abbrev pub sweep_want : SweepState → Operation
sweep_want s = row_want s.thread s.cycle s.row

abbrev pub sweep_got : SweepState → ℕ → SweepState
sweep_got s w = record s { row = row_got s.cycle s.blocks s.owed s.row w }

-- the ends
abbrev pub sweep_over : SweepRow → Bool
sweep_over (Swept passed freed) = true
sweep_over NothingLeft = true
sweep_over _ = false

-- what the event was that led to a row: one that led back to the cursor lost its claim, and waits
abbrev pub step_to : SweepRow → Step
step_to ReadCursor = Waited
step_to (Swept passed freed) = Over
step_to NothingLeft = Over
step_to _ = Went

abbrev pub sweep_step : SweepState → ℕ → Step
sweep_step s w = step_to (sweep_got s w).row

-- the rows after an event that passed a block. Where blocks were freed, others lie between the
-- last one that was passed and the end
abbrev pub sweep_unit : SweepRow → Bool
sweep_unit (PassBlock x high passed list freed) = nat_lt 0 passed
sweep_unit (PutFree list passed freed) = true
sweep_unit (Swept passed freed) = freed == 0
sweep_unit _ = false

-- how many blocks were passed so far
abbrev pub sweep_passed : SweepRow → ℕ
sweep_passed ReadCursor = 0
sweep_passed (ClaimRange x high) = 0
sweep_passed (PassBlock x high passed list freed) = passed
sweep_passed (TakeFree x high passed) = passed
sweep_passed (FreeBlock x high passed list freed) = passed
sweep_passed (PutFree list passed freed) = passed
sweep_passed (Credit passed freed) = passed
sweep_passed (Swept passed freed) = passed
sweep_passed NothingLeft = 0

-- the end at which the cursor was read after the last block
abbrev pub sweep_nothing : SweepRow → Bool
sweep_nothing NothingLeft = true
sweep_nothing _ = false

-- the first state
abbrev pub sweeping : ℕ → ℕ → ℕ → ℕ → SweepState
sweeping t c m owed = record { thread = t; cycle = c; blocks = m; owed = owed; row = ReadCursor }

-- what the thread holds before the event of a row. Its own list is empty from the event that
-- takes it, before the first block is freed, until the one that puts its private list
abbrev pub sweep_in_hand : SweepRow → WorkInHand
sweep_in_hand ReadCursor = holds_nothing
sweep_in_hand (ClaimRange x high) = holds_nothing
sweep_in_hand (PassBlock x high passed list freed) = record holds_nothing {
  free_list = list;
  free_emptied = nat_lt 0 freed;
  freed = freed;
  low = x;
  high = high;
}
sweep_in_hand (TakeFree x high passed) = record holds_nothing { low = x; high = high; doomed = x }
sweep_in_hand (FreeBlock x high passed list freed) = record holds_nothing {
  free_list = list;
  free_emptied = true;
  freed = freed;
  low = x;
  high = high;
  doomed = x;
}
sweep_in_hand (PutFree list passed freed) = record holds_nothing {
  free_list = list;
  free_emptied = true;
  freed = freed;
}
sweep_in_hand (Credit passed freed) = record holds_nothing { freed = freed }
sweep_in_hand (Swept passed freed) = holds_nothing
sweep_in_hand NothingLeft = holds_nothing
