-- The ranges of the numbers in a row, and the words that it may read.
use Rattle.std.specs.Prelude.{ℕ, ◌+◌, ◌<◌, ◌≤◌, ◌≡◌, ◌⊎◌, true}
use Rattle.block_store.specs.declared.Config.{Config}
use Rattle.block_store.specs.Heaps.{Heap}
use Rattle.block_store.specs.Phases.{is_sweep, cycle_of}
use Rattle.block_store.specs.Places.{extent, Phase}
use Rattle.heap_machine.specs.Operations.{place_of}
use Rattle.heap_machine.specs.Readings.{CanHold}
use Rattle.sweep_steps.specs.declared.rows.SweepRow.{SweepRow}
use Rattle.sweep_steps.specs.declared.rows.SweepRow.TheVariants.{ReadCursor, ClaimRange, PassBlock, TakeFree, FreeBlock, PutFree, Credit, Swept, NothingLeft}
use Rattle.sweep_steps.specs.Rows.{SweepState, sweep_want}

-- of m blocks those from x on below high are left of a range, of which this many were passed: with
-- them at most eight, and at most as many as were owed
pub record IsLeft (m owed x high passed : ℕ) : Type 0 where
  pub some : 1 ≤ x
  pub left : x < high
  pub last : high ≤ m + 1
  pub few : high + passed ≤ x + 8
  pub due : high + passed ≤ x + owed

-- what was freed, of the blocks that were passed, is in the private list, which is a block or 0
abbrev pub IsFreed : ℕ → ℕ → ℕ → ℕ → Type 0
IsFreed m passed list freed =
    (freed ≡ 0) × (list ≡ 0) ⊎ (1 ≤ freed) × (freed ≤ passed) × (1 ≤ list) × (list ≤ m)

-- the numbers that a row names are in range, of m blocks
abbrev pub RowFits : ℕ → ℕ → SweepRow → Type 0
RowFits m owed ReadCursor = Unit {0}
RowFits m owed (ClaimRange x high) = IsLeft m owed x high 0
RowFits m owed (PassBlock x high passed list freed) =
    IsLeft m owed x high passed × IsFreed m passed list freed
RowFits m owed (TakeFree x high passed) = IsLeft m owed x high passed
RowFits m owed (FreeBlock x high passed list freed) =
    IsLeft m owed x high passed × (list ≤ m) × (freed ≤ passed)
RowFits m owed (PutFree list passed freed) =
    (1 ≤ list) × (list ≤ m) × (1 ≤ freed) × (freed ≤ passed) × (passed ≤ 8) × (passed ≤ owed)
RowFits m owed (Credit passed freed) =
    (1 ≤ freed) × (freed ≤ passed) × (passed ≤ 8) × (passed ≤ owed)
RowFits m owed (Swept passed freed) =
    (1 ≤ passed) × (freed ≤ passed) × (passed ≤ 8) × (passed ≤ owed)
RowFits m owed NothingLeft = Unit {0}

-- the heap has the state's blocks, at most 65,535, and its thread; some unit was owed; and the
-- row's numbers are in range
pub record SweepFits (c : Config) (s : SweepState) : Type 0 where
  pub blocks : s.blocks ≡ c.blocks
  pub few : c.blocks ≤ 65535
  pub thread : s.thread < c.threads
  pub owed : 1 ≤ s.owed
  pub row : RowFits c.blocks s.owed s.row

-- the words that a row may read: those that the wanted place can hold
abbrev pub SweepReads : Config → SweepState → ℕ → Type 0
SweepReads c s w = CanHold (extent c) (place_of (sweep_want s)) w

-- the phase is Sweep, in the state's cycle
pub record IsSweeping (h : Heap) (s : SweepState) : Type 0 where
  pub phase : is_sweep (h Phase) ≡ true
  pub cycle : cycle_of (h Phase) ≡ s.cycle
