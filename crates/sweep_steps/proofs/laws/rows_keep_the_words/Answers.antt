use Rattle.sweep_steps.proofs.FreedBlocks.{keeps_words}
use Rattle.sweep_steps.proofs.laws.rows_keep_the_words.Goals as goal

pub returns : goal.returns
returns c = keeps_words
