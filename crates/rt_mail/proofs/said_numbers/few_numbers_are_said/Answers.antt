use Rattle.rt_mail.proofs.said_numbers.NumbersPerThread.{few_said}
use Rattle.rt_mail.proofs.said_numbers.few_numbers_are_said.Goals as goal

pub returns : goal.returns
returns c = few_said
