use Rattle.heap_structures.proofs.cell_arrays.Opening.{opens_as}
use Rattle.heap_structures.proofs.rings.Rounds.{round_new}
use Rattle.heap_structures.proofs.queue.Queue.new.Goals as goal

pub returns-clause-opens : goal.returns-clause-opens
returns-clause-opens c s g has may =
    let cells = c.in_ok-cells.cells in
    let o = c.in_ok-cells.ensures.opens s g has may in
    opens_as s c.args.heap.now c.made.new.heap cells g _ _ o
    (round_new o.graph cells c.args.size c.in_ok-cells.ensures.placed.2 c.in_ok-cells.ensures.some)
