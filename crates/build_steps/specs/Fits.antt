-- The ranges of the numbers in a row, and the words that it may read.
use Rattle.std.specs.Prelude.{ℕ, ◌+◌, ◌<◌, ◌≤◌, ◌≡◌, List, [], length, ◌^◌}
use Rattle.block_store.specs.declared.Config.{Config}
use Rattle.block_store.specs.Places.{extent, IsBlock}
use Rattle.block_store.specs.Registers.{registers_end}
use Rattle.block_store.specs.Widths.{payloads}
use Rattle.never_heap.specs.Bounds.{IsCommandInRange}
use Rattle.never_heap.specs.Steps.{blocks_of}
use Rattle.heap_machine.specs.Operations.{place_of}
use Rattle.heap_machine.specs.Readings.{CanHold}
use Rattle.build_steps.specs.declared.rows.BuildRow.{BuildRow}
use Rattle.build_steps.specs.declared.rows.BuildRow.TheVariants.{
  ReadCount,
  Reserve,
  TakeFree,
  Collect,
  PutRest,
  WriteOwner,
  WriteShape,
  WritePayload,
  WriteColour,
  Publish,
  Built,
  Refused,
}
use Rattle.build_steps.specs.Objects.{block_at}
use Rattle.build_steps.specs.Rows.{BuildState, build_want}

-- all k blocks are held, and ordinal o is one of theirs
abbrev pub IsOrdinal : ℕ → List ℕ → ℕ → Type 0
IsOrdinal k held o = (length held ≡ k) × (o < k)

-- the numbers that a row names are in range, and as many of k blocks are held as the row says
abbrev pub RowFits : Config → ℕ → List ℕ → BuildRow → Type 0
RowFits c k held ReadCount = held ≡ []
RowFits c k held (Reserve seen) = (held ≡ []) × (k ≤ seen) × (seen ≤ c.blocks)
RowFits c k held (TakeFree u) = (u < c.threads) × (length held < k)
RowFits c k held (Collect list u) = IsBlock c list × (u < c.threads) × (length held < k)
RowFits c k held (PutRest list) = IsBlock c list × (length held ≡ k)
RowFits c k held (WriteOwner o) = IsOrdinal k held o
RowFits c k held (WriteShape o) = IsOrdinal k held o
RowFits c k held (WritePayload o j) = IsOrdinal k held o × (j < payloads c.width)
RowFits c k held (WriteColour o) = IsOrdinal k held o
RowFits c k held Publish = length held ≡ k
RowFits c k held Built = length held ≡ k
RowFits c k held Refused = held ≡ []

-- The heap has the state's threads, at most 16, of which this is one whose registers are in the
-- heap, and at most 65,535 blocks. The command makes an object of so many blocks, at most 1,024,
-- for which there is room. What is held are blocks of the heap, and the row's numbers are in
-- range.
pub record BuildFits (c : Config) (s : BuildState) : Type 0 where
  pub threads : s.threads ≡ c.threads
  pub few : s.threads ≤ 16
  pub blocks : c.blocks ≤ 65535
  pub thread : s.thread < s.threads
  pub registers : registers_end c.width (s.thread + 1) ≤ c.blocks
  pub serial : s.serial < 2 ^ 43
  pub range : IsCommandInRange s.command
  pub size : s.blocks ≡ blocks_of c.width s.command
  pub some : 1 ≤ s.blocks
  pub most : s.blocks ≤ 1024
  pub space : s.blocks ≤ s.capacity
  pub held : (o : ℕ) → o < length s.held → IsBlock c (block_at s.held o)
  pub row : RowFits c s.blocks s.held s.row

-- the words that a row may read: those that the wanted place can hold
abbrev pub BuildReads : Config → BuildState → ℕ → Type 0
BuildReads c s w = CanHold (extent c) (place_of (build_want (extent c) s)) w
