use Rattle.std.proofs.Common.{slice_index_or, arith}
use Rattle.block_store.specs.declared.Value.TheVariants.{Nil}
use Rattle.heap_structures.proofs.cell_arrays.Chained.{ready_less, stored_spare}
use Rattle.heap_structures.proofs.cells.Cells.copy.Goals as goal

pub returns : goal.returns
returns c s g vs ready from to =
    stored_spare s 1 c.args.heap.now c.get.new.heap c.put.new.heap c.args.self.now g vs c.args.to
    (slice_index_or vs c.args.from Nil) c.put.result ready to
    (c.in_ok-get.ensures s g vs
    (ready_less s 2 1 c.args.heap.now c.args.self.now g vs (omega arith) ready) from
    ready.cells.placed.spare ready.cells.placed.apart).1
    (λ k next l small. c.put.ensures s k vs next l small)
