use Rattle.std.proofs.Common.{◌+◌, ◌*◌, ◌-◌, ◌∷◌, [], refl, slice_set, arith}
use Rattle.block_store.specs.declared.Value.TheVariants.{Nil}
use Rattle.heap_structures.specs.Cells.{IsCells}
use Rattle.heap_structures.specs.Tables.{IsLowered}
use Rattle.heap_structures.proofs.cell_arrays.Answered.{ok_map}
use Rattle.heap_structures.proofs.cell_arrays.Chained.{ready_less}
use Rattle.heap_structures.proofs.tables.TableCalls.{ready_of, ready_then, row_of}
use Rattle.heap_structures.proofs.tables.TableChains.{row_removed}
use Rattle.heap_structures.proofs.cells.Cells.remove_row.Goals as goal

pub returns-in_err-move_down : goal.returns-in_err-move_down
returns-in_err-move_down c s g xs key st f =
    let cells = c.args.self.now in
    let heap = c.args.heap.now in
    let count = c.args.count in
    let place = 2 * c.from-place.result in
    let end = 2 * c.from-end.result in
    let r = row_of g cells count key c.args.row xs st.table f in
    let l = st.table.cells.size in
    let k = st.table.counted in
    let m = st.table.few in
    let ready = ready_of s (4 * count) (4 * count) heap cells g count xs st (omega arith) in
    absurd (c.in_err-move_down.ensures s g st.table.array
    (ready_of s (4 * count) (2 * (end - place)) heap cells g count xs st (omega (arith, r)))
    (omega (arith, l, k, m, r)) (omega (arith, r)))

pub returns-in_err-clear : goal.returns-in_err-clear
returns-in_err-clear c s g xs key st f =
    let cells = c.args.self.now in
    let heap = c.args.heap.now in
    let count = c.args.count in
    let place = 2 * c.from-place.result in
    let end = 2 * c.from-end.result in
    let r = row_of g cells count key c.args.row xs st.table f in
    let l = st.table.cells.size in
    let k = st.table.counted in
    let m = st.table.few in
    let ready = ready_of s (4 * count) (4 * count) heap cells g count xs st (omega arith) in
    let d = c.in_ok-move_down.ensures s g st.table.array
    (ready_of s (4 * count) (2 * (end - place)) heap cells g count xs st (omega (arith, r)))
    (omega (arith, l, k, m, r)) (omega (arith, r)) in
    let n = d.holds.cells.size in
    let second = ready_then s (2 * (end - place)) 4 (4 * count) heap c.move_down.new.heap
    (cells.spare ∷ []) cells g st.table.array d.holds.array
    (λ q. IsLowered q cells place end st.table.array) ready d (omega (arith, r)) d.holds.cells in
    absurd (c.in_err-clear.ensures s d.graph d.holds.array
    (ready_less s 4 2 c.move_down.new.heap cells d.graph d.holds.array (omega arith) second)
    (omega (arith, n, k, m, r)))

pub returns : goal.returns
returns c s g xs key st f =
    let cells = c.args.self.now in
    let heap = c.args.heap.now in
    let count = c.args.count in
    let place = 2 * c.from-place.result in
    let end = 2 * c.from-end.result in
    let r = row_of g cells count key c.args.row xs st.table f in
    let l = st.table.cells.size in
    let k = st.table.counted in
    let m = st.table.few in
    let ready = ready_of s (4 * count) (4 * count) heap cells g count xs st (omega arith) in
    let d = c.in_ok-move_down.ensures s g st.table.array
    (ready_of s (4 * count) (2 * (end - place)) heap cells g count xs st (omega (arith, r)))
    (omega (arith, l, k, m, r)) (omega (arith, r)) in
    let n = d.holds.cells.size in
    let second = ready_then s (2 * (end - place)) 4 (4 * count) heap c.move_down.new.heap
    (cells.spare ∷ []) cells g st.table.array d.holds.array
    (λ q. IsLowered q cells place end st.table.array) ready d (omega (arith, r)) d.holds.cells in
    let e = c.in_ok-clear.ensures s d.graph d.holds.array
    (ready_less s 4 2 c.move_down.new.heap cells d.graph d.holds.array (omega arith) second)
    (omega (arith, n, k, m, r)) in
    ok_map _ _ c.clear-2.result
    (λ u p. row_removed s cells count key c.args.row xs heap g c.move_down.new.heap
    c.clear.new.heap c.clear-2.new.heap place end (end + 1) st f (omega arith) (omega arith) refl
    d e p)
    (c.clear-2.ensures s e.graph (slice_set d.holds.array end Nil)
    (ready_then s 2 2 4 c.move_down.new.heap c.clear.new.heap (cells.spare ∷ []) cells d.graph
    d.holds.array (slice_set d.holds.array end Nil)
    (λ q. IsCells q cells (slice_set d.holds.array end Nil)) second e (omega arith) e.holds)
    (let o = e.holds.size in omega (arith, o, k, m, r)))
