use Rattle.std.proofs.Common.{arith}
use Rattle.block_store.specs.declared.Value.TheVariants.{Int}
use Rattle.heap_structures.proofs.cell_arrays.Chained.{ready_less, stored_spare}
use Rattle.heap_structures.proofs.cells.Cells.write.Goals as goal

pub returns : goal.returns
returns c s g vs ready low few =
    stored_spare s 1 c.args.heap.now c.count_in.new.heap c.put.new.heap c.args.self.now g vs
    c.args.i (Int c.args.number) c.put.result ready low
    (c.in_ok-count_in.ensures s g vs
    (ready_less s 2 1 c.args.heap.now c.args.self.now g vs (omega arith) ready) few)
    (λ k next l small. c.put.ensures s k vs next l small)
