use Rattle.rt_mail.proofs.said_numbers.NumberBounds.{said_numbers_small}
use Rattle.rt_mail.proofs.said_numbers.said_numbers_are_small.Goals as goal

pub returns : goal.returns
returns c = said_numbers_small
