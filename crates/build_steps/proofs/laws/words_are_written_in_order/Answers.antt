use Rattle.build_steps.proofs.Order.{next_word}
use Rattle.build_steps.proofs.laws.words_are_written_in_order.Goals as goal

pub returns : goal.returns
returns c = next_word
