use Rattle.heap_machine.proofs.GreyBlocks.{kept_other, kept_other_colour}
use Rattle.heap_machine.proofs.laws.other_writes_keep_grey.Goals as goal

pub returns : goal.returns
returns c = record { place = kept_other; colour = kept_other_colour }
