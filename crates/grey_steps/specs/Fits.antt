-- The ranges of the numbers in a row, and the words that it may read.
use Rattle.std.specs.Prelude.{ℕ, ◌<◌, ◌≤◌, ◌≡◌}
use Rattle.block_store.specs.declared.Config.{Config}
use Rattle.block_store.specs.Widths.{payloads}
use Rattle.block_store.specs.Places.{extent, IsBlock}
use Rattle.heap_machine.specs.Operations.{place_of}
use Rattle.heap_machine.specs.Readings.{CanHold}
use Rattle.grey_steps.specs.declared.rows.GreyRow.{GreyRow}
use Rattle.grey_steps.specs.declared.rows.GreyRow.TheVariants.{Take, Pop, ScanWord, Shade, Blacken, Put, Scanned, NothingGrey, TakeOwn, ShadeStored, PutOwn, Shaded}
use Rattle.grey_steps.specs.Rows.{GreyState, grey_want}

-- the numbers that a row names are in range: lists, blocks, payloads, and hands, which are blocks
-- or 0
abbrev pub RowFits : Config → GreyRow → Type 0
RowFits c (Take u) = u < c.threads
RowFits c (Pop list) = IsBlock c list
RowFits c (ScanWord x j list) = IsBlock c x × (j < payloads c.width) × (list ≤ c.blocks)
RowFits c (Shade x j y list) = IsBlock c x × (j < payloads c.width) × IsBlock c y
    × (list ≤ c.blocks)
RowFits c (Blacken x list) = IsBlock c x × (list ≤ c.blocks)
RowFits c (Put list) = IsBlock c list
RowFits c Scanned = Unit {0}
RowFits c NothingGrey = Unit {0}
RowFits c (TakeOwn y) = IsBlock c y
RowFits c (ShadeStored y list) = IsBlock c y × (list ≤ c.blocks)
RowFits c (PutOwn y list) = IsBlock c y × IsBlock c list
RowFits c (Shaded y) = IsBlock c y

-- the heap has the state's threads, at most 16, of which this is one, and at most 65,535 blocks;
-- the row's numbers are in range
pub record GreyFits (c : Config) (s : GreyState) : Type 0 where
  pub threads : s.pass.threads ≡ c.threads
  pub few : s.pass.threads ≤ 16
  pub blocks : c.blocks ≤ 65535
  pub thread : s.pass.thread < s.pass.threads
  pub row : RowFits c s.row

-- the words that a row may read: those that the wanted place can hold
abbrev pub GreyReads : Config → GreyState → ℕ → Type 0
GreyReads c s w = CanHold (extent c) (place_of (grey_want s)) w
