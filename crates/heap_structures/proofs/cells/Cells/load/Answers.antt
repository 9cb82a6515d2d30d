use Rattle.std.proofs.Common.{◌+◌, ◌*◌, arith}
use Rattle.heap_structures.proofs.cell_arrays.Answered.{ok_map}
use Rattle.heap_structures.proofs.tables.TableCalls.{place_low, ready_of, value_read}
use Rattle.heap_structures.proofs.cells.Cells.load.Goals as goal

pub returns : goal.returns
returns c s g count xs st low few apart =
    let cells = c.args.self.now in
    let heap = c.args.heap.now in
    ok_map _ _ c.get.result
    (λ v got. value_read g cells count xs st.table s heap c.get.new.heap c.args.row
    (2 * c.from.result + 1) low v c.args.d (omega arith) got)
    (c.get.ensures s g st.table.array (ready_of s 1 1 heap cells g count xs st (omega arith))
    (place_low g cells count xs st.table c.args.row (2 * c.from.result + 1) low (omega arith)) few apart)
