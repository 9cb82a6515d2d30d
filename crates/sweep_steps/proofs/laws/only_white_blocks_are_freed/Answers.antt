use Rattle.sweep_steps.proofs.FreedBlocks.{colours_stay, frees_white, keeps_grey, leaves_others}
use Rattle.sweep_steps.proofs.laws.only_white_blocks_are_freed.Goals as goal

pub returns : goal.returns
returns c = record {
  white = frees_white;
  others = colours_stay;
  words = leaves_others;
  grey = keeps_grey;
}
