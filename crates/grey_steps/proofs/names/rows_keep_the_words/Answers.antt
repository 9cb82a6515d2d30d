use Rattle.grey_steps.proofs.RowsFit.{keeps_words}
use Rattle.grey_steps.proofs.names.rows_keep_the_words.Goals as goal

pub returns : goal.returns
returns c = keeps_words
