use Rattle.heap_structures.proofs.cell_arrays.Answered.{set_to}
use Rattle.heap_structures.proofs.cells.Cells.count_in.Goals as goal

pub returns : goal.returns
returns c s g vs ready low =
    set_to c.quiet_commands_keep_graphs.ensures s c.args.heap.now c.set.new.self c.args.self.now g
    vs ready c.set.ensures.config _ c.args.self.now.spare c.args.number c.set.result
    ready.cells.placed.spare ready.cells.placed.apart low c.set.ensures.returned
