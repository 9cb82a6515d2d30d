-- The blocks with which a heap opens.
use Rattle.std.specs.Prelude.{ℕ, ◌+◌}
use Rattle.block_store.specs.declared.Config.{Config}
use Rattle.block_store.specs.Registers.{registers_end}
use Rattle.array_trees.specs.Trees.{array_blocks}

-- The register arrays of all threads, and after them the shared array. This is also the number of
-- the last of these blocks.
abbrev pub opening_blocks : Config → ℕ
opening_blocks c = registers_end c.width c.threads + array_blocks c.width c.shared
