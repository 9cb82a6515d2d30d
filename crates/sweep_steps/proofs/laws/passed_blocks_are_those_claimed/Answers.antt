use Rattle.sweep_steps.proofs.PassedBlocks.{one_range, claimed_after, passed_all, passed_many}
use Rattle.sweep_steps.proofs.laws.passed_blocks_are_those_claimed.Goals as goal

pub returns : goal.returns
returns c = record {
  claimed = one_range;
  left = claimed_after;
  over = passed_all;
  count = passed_many;
}
