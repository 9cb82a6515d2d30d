use Rattle.heap_structures.proofs.cell_arrays.Answered.{blanked}
use Rattle.heap_structures.proofs.cells.Cells.blank.Goals as goal

pub returns : goal.returns
returns c s g vs ready =
    blanked c.quiet_commands_keep_graphs.ensures s c.args.heap.now c.nil.new.self c.args.self.now g
    vs ready c.nil.ensures.config _ c.args.self.now.spare c.nil.result
    ready.cells.placed.spare ready.cells.placed.apart c.nil.ensures.returned
