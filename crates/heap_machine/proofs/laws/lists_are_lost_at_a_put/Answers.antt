use Rattle.heap_machine.proofs.GreyLost.{put_loses}
use Rattle.heap_machine.proofs.laws.lists_are_lost_at_a_put.Goals as goal

pub returns : goal.returns
returns c = put_loses
