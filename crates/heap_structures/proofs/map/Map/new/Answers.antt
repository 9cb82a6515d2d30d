use Rattle.std.proofs.Common.{◌*◌}
use Rattle.heap_structures.proofs.cell_arrays.Opening.{opens_as}
use Rattle.heap_structures.proofs.tables.TableChains.{table_new}
use Rattle.heap_structures.proofs.map.Map.new.Goals as goal

pub returns-clause-opens : goal.returns-clause-opens
returns-clause-opens c s g has may =
    let cells = c.in_ok-cells.cells in
    let o = c.in_ok-cells.ensures.opens s g has may in
    opens_as s c.args.heap.now c.made.new.heap cells g _ _ o
    (table_new o.graph cells (2 * c.args.size))
