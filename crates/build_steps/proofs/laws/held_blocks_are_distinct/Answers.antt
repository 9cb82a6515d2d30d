use Rattle.std.proofs.Common.{arith}
use Rattle.build_steps.proofs.DistinctHeldBlocks.{keeps_once, one_place, holds_left, left_free}
use Rattle.build_steps.proofs.laws.held_blocks_are_distinct.Goals as goal

pub returns : goal.returns
returns c = record {
  first = λ x. omega arith;
  kept = keeps_once;
  apart = one_place;
  left = holds_left;
  free = left_free;
}
