use Rattle.std.proofs.Common.{◌*◌, arith}
use Rattle.heap_structures.proofs.tables.TableCalls.{key_read, place_low, ready_of}
use Rattle.heap_structures.proofs.cells.Cells.key_at.Goals as goal

pub returns : goal.returns
returns c s g count xs st low =
    let cells = c.args.self.now in
    let heap = c.args.heap.now in
    key_read g cells count xs st.table s heap c.get.new.heap c.args.row (2 * c.from-place.result) low
    c.in_ok-value.value c.key_in.result (omega arith)
    (c.in_ok-value.ensures s g st.table.array
    (ready_of s 1 1 heap cells g count xs st (omega arith))
    (place_low g cells count xs st.table c.args.row (2 * c.from-place.result) low (omega arith))
    st.table.cells.placed.spare st.table.cells.placed.apart)
    c.key_in.ensures
