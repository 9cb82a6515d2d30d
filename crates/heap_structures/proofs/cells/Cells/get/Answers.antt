use Rattle.heap_structures.proofs.cell_arrays.Answered.{got}
use Rattle.heap_structures.proofs.cells.Cells.get.Goals as goal

pub returns : goal.returns
returns c s g vs ready low few apart =
    got c.quiet_commands_keep_graphs.ensures s c.args.heap.now c.get.new.self c.args.self.now g vs
    ready c.get.ensures.config _ c.args.i c.args.d c.get.result low few apart c.get.ensures.returned
