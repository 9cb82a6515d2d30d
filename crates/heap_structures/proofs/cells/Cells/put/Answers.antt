use Rattle.heap_structures.proofs.cell_arrays.Answered.{put_at}
use Rattle.heap_structures.proofs.cells.Cells.put.Goals as goal

pub returns : goal.returns
returns c s g vs ready low few =
    put_at c.quiet_commands_keep_graphs.ensures s c.args.heap.now c.put.new.self c.args.self.now g
    vs ready c.put.ensures.config _ c.args.i c.args.from c.put.result low few c.put.ensures.returned
