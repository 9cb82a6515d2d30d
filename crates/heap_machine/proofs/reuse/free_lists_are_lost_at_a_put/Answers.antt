use Rattle.heap_machine.proofs.FreeLost.{free_put_loses}
use Rattle.heap_machine.proofs.reuse.free_lists_are_lost_at_a_put.Goals as goal

pub returns : goal.returns
returns c = free_put_loses
