use Rattle.std.proofs.Common.{◌≡◌, ◌<◌, ◌≤◌}
use Rattle.block_store.specs.Widths.{payloads}
use Rattle.array_trees.specs.Levels.{level_size, array_depth}
use Rattle.array_trees.proofs.depth_of.Given as goal

abbrev pub invariant-loop-level : goal.invariant-loop-level
invariant-loop-level l = record {
  some : 0 < l.level;
  size : l.level ≡ level_size (payloads l.width) l.e l.depth;
  deep : l.depth ≤ array_depth l.width l.e;
}

abbrev pub decreases-loop-level : goal.decreases-loop-level
decreases-loop-level l = l.level
