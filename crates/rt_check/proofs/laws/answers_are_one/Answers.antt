use Rattle.rt_check.proofs.OneAnswer.{one_answer}
use Rattle.rt_check.proofs.laws.answers_are_one.Goals as goal

pub returns : goal.returns
returns c = one_answer
