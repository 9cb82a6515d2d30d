use Rattle.std.proofs.Common.{slice_index_or, Ok, [], ◌∷◌, arith}
use Rattle.block_store.specs.declared.Value.TheVariants.{Nil}
use Rattle.control_heap.specs.declared.faults.Fault.{Fault}
use Rattle.heap_structures.proofs.cell_arrays.Chained.{ready_less, ready_next, taken}
use Rattle.heap_structures.proofs.cells.Cells.take.Goals as goal

pub returns : goal.returns
returns c s g vs ready low few base spare =
    let first = c.in_ok-value.ensures s g vs
    (ready_less s 3 1 c.args.heap.now c.args.self.now g vs (omega arith) ready) low few base in (
      first.0,
      taken {E = Fault} s c.args.heap.now c.get.new.heap c.clear.new.heap c.args.self.now g vs c.args.d
          c.args.i (slice_index_or vs c.args.i Nil) (Ok tt) ready spare low first.1
          (λ k next l. c.in_ok-clear.ensures s k vs next l),
    )

pub returns-in_err-clear : goal.returns-in_err-clear
returns-in_err-clear c s g vs ready low few base spare =
    let first = c.in_ok-value.ensures s g vs
    (ready_less s 3 1 c.args.heap.now c.args.self.now g vs (omega arith) ready) low few base in
    absurd (c.in_err-clear.ensures s first.1.graph vs
    (ready_next s 1 2 c.args.heap.now c.get.new.heap (c.args.d ∷ []) c.args.self.now g vs vs
    _ ready first.1 first.1.holds.0) low)
