use Rattle.std.proofs.Common.{◌+◌, ◌*◌, ◌∷◌, [], arith}
use Rattle.heap_structures.proofs.tables.TableCalls.{place_low, ready_of, ready_then, row_of}
use Rattle.heap_structures.proofs.tables.TableChains.{row_replaced}
use Rattle.heap_structures.proofs.cells.Cells.replace.Goals as goal

pub returns-in_err-put : goal.returns-in_err-put
returns-in_err-put c s g count xs key st low f few apart =
    let cells = c.args.self.now in
    let place = 2 * c.from.result + 1 in
    let ready = ready_of s 2 2 c.args.heap.now cells g count xs st (omega arith) in
    let inside = place_low g cells count xs st.table c.args.row place
    (row_of g cells count key c.args.row xs st.table f) (omega arith) in
    let d = c.in_ok-old.ensures s g st.table.array
    (ready_of s 2 1 c.args.heap.now cells g count xs st (omega arith)) inside
    st.table.cells.placed.spare st.table.cells.placed.apart in
    absurd (c.in_err-put.ensures s d.1.graph st.table.array
    (ready_then s 1 1 2 c.args.heap.now c.get.new.heap (cells.spare ∷ []) cells g st.table.array
    st.table.array _ ready d.1 (omega arith) d.1.holds.0) inside few)

pub returns : goal.returns
returns c s g count xs key st low f few apart =
    let cells = c.args.self.now in
    let place = 2 * c.from.result + 1 in
    let ready = ready_of s 2 2 c.args.heap.now cells g count xs st (omega arith) in
    let inside = place_low g cells count xs st.table c.args.row place
    (row_of g cells count key c.args.row xs st.table f) (omega arith) in
    let d = c.in_ok-old.ensures s g st.table.array
    (ready_of s 2 1 c.args.heap.now cells g count xs st (omega arith)) inside
    st.table.cells.placed.spare st.table.cells.placed.apart in
    row_replaced s cells count key c.args.row xs c.args.heap.now g c.get.new.heap c.put.new.heap
    c.args.from place c.in_ok-old.old st f low apart (omega arith) d
    (c.in_ok-put.ensures s d.1.graph st.table.array
    (ready_then s 1 1 2 c.args.heap.now c.get.new.heap (cells.spare ∷ []) cells g st.table.array
    st.table.array _ ready d.1 (omega arith) d.1.holds.0) inside few)
