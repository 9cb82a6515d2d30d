use Rattle.std.proofs.Common.{◌≡◌, ◌≤◌}
use Rattle.block_store.specs.Widths.{payloads}
use Rattle.object_lists.specs.Parts.{link_in}
use Rattle.array_trees.specs.Levels.{level_size, level_start, part_from, array_part, array_depth}
use Rattle.array_trees.proofs.child_of.Given as goal

-- the block is none of a level above this one
abbrev pub invariant-loop-height : goal.invariant-loop-height
invariant-loop-height l = record {
  deep : l.height ≤ array_depth l.width l.e;
  start : l.start ≡ level_start (payloads l.width) l.e l.height;
  inside : l.start ≤ l.ordinal;
  part : link_in (part_from (payloads l.width) l.e (level_start (payloads l.width) l.e)
      (level_size (payloads l.width) l.e) l.height l.ordinal l.j)
      ≡ link_in (array_part l.width l.e l.ordinal l.j);
}
