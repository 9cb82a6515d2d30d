-- The ranges of a command.
use Rattle.std.specs.Prelude.{◌≤◌}
use Rattle.block_store.specs.declared.Config.{Config}
use Rattle.never_heap.specs.declared.Command.{Command}
use Rattle.never_heap.specs.RightWork.{requested_units}
use Rattle.never_heap.specs.Signatures.{Each, IsInRange, IsOfVersion, operands, signature}
use Rattle.never_heap.specs.Steps.{blocks_of}

-- each operand is in its range, which says nothing of the configuration
abbrev pub IsCommandInRange : Command → Type 0
IsCommandInRange k = Each IsInRange (operands k)

-- and an object takes no more blocks than the configuration allows, an idle makes at most 131,070
-- units, and the command is one of the configuration's version
pub record IsCommandInBounds (c : Config) (k : Command) : Type 0 where
  pub range : IsCommandInRange k
  pub blocks : blocks_of c.width k ≤ c.object
  pub units : requested_units k ≤ 131070
  pub version : IsOfVersion (signature k).version c.width
