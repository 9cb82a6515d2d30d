use Rattle.std.proofs.Common.{arith}
use Rattle.block_store.specs.declared.Value.TheVariants.{Nil}
use Rattle.heap_structures.proofs.cell_arrays.Chained.{ready_less, stored_spare}
use Rattle.heap_structures.proofs.cells.Cells.clear.Goals as goal

pub returns : goal.returns
returns c s g vs ready low =
    stored_spare s 1 c.args.heap.now c.blank.new.heap c.put.new.heap c.args.self.now g vs c.args.i
    Nil c.put.result ready low
    (c.in_ok-blank.ensures s g vs
    (ready_less s 2 1 c.args.heap.now c.args.self.now g vs (omega arith) ready))
    (λ k next l few. c.put.ensures s k vs next l few)
