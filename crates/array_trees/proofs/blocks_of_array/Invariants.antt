use Rattle.std.proofs.Common.{◌≡◌, ◌+◌, ◌<◌}
use Rattle.block_store.specs.Widths.{payloads}
use Rattle.array_trees.specs.Trees.{tree, array_blocks}
use Rattle.array_trees.proofs.blocks_of_array.Given as goal

-- the levels so far are all but those over this one
abbrev pub invariant-loop-level : goal.invariant-loop-level
invariant-loop-level l = record {
  some : 0 < l.level;
  counted : l.blocks + tree (payloads l.width) l.level ≡ array_blocks l.width l.e + l.level;
}

abbrev pub decreases-loop-level : goal.decreases-loop-level
decreases-loop-level l = l.level
