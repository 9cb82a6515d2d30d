use Rattle.heap_structures.proofs.cell_arrays.NoAllocation.{quiet_done}
use Rattle.heap_structures.proofs.laws.quiet_commands_keep_graphs.Goals as goal

pub returns : goal.returns
returns c s h z g k quiet has d =
    quiet_done c.histories_are_right.ensures.legal c.histories_are_right.ensures.licensed
    c.live_grows.ensures c.lives_add_up.ensures.used h z g k quiet d s has
