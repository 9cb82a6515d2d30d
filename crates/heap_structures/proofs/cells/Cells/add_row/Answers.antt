use Rattle.std.proofs.Common.{◌≡◌, ◌+◌, ◌*◌, ◌-◌, ◌∷◌, [], refl, slice_set, subst, arith}
use Rattle.block_store.specs.declared.Value.TheVariants.{Int}
use Rattle.heap_structures.specs.Cells.{IsCells}
use Rattle.heap_structures.specs.Heaps.{Does}
use Rattle.heap_structures.specs.Tables.{IsRaised}
use Rattle.heap_structures.proofs.cell_arrays.Answered.{ok_map}
use Rattle.heap_structures.proofs.cell_arrays.Chained.{ready_less}
use Rattle.heap_structures.proofs.tables.TableCalls.{ready_of, ready_then, row_in}
use Rattle.heap_structures.proofs.tables.TableChains.{row_added}
use Rattle.heap_structures.proofs.cells.Cells.add_row.Goals as goal

pub returns-in_err-move_up : goal.returns-in_err-move_up
returns-in_err-move_up c s g xs st f size few apart =
    let cells = c.args.self.now in
    let heap = c.args.heap.now in
    let count = c.args.count in
    let place = 2 * c.from-place.result in
    let end = 2 * c.from-end.result in
    let most = 4 * count + 3 in
    let r = row_in g cells count c.args.key c.args.row xs st.table f in
    let l = st.table.cells.size in
    let ready = ready_of s most most heap cells g count xs st (omega arith) in
    absurd (c.in_err-move_up.ensures s g st.table.array
    (ready_of s most (2 * (end - place)) heap cells g count xs st (omega (arith, r)))
    (omega (arith, l, size)) (omega (arith, r)))

pub returns-in_err-write : goal.returns-in_err-write
returns-in_err-write c s g xs st f size few apart =
    let cells = c.args.self.now in
    let heap = c.args.heap.now in
    let count = c.args.count in
    let place = 2 * c.from-place.result in
    let end = 2 * c.from-end.result in
    let most = 4 * count + 3 in
    let r = row_in g cells count c.args.key c.args.row xs st.table f in
    let l = st.table.cells.size in
    let ready = ready_of s most most heap cells g count xs st (omega arith) in
    let d = c.in_ok-move_up.ensures s g st.table.array
    (ready_of s most (2 * (end - place)) heap cells g count xs st (omega (arith, r)))
    (omega (arith, l, size)) (omega (arith, r)) in
    let n = d.holds.cells.size in
    let second = ready_then s (2 * (end - place)) 3 most heap c.move_up.new.heap (cells.spare ∷ []) cells g
    st.table.array d.holds.array (λ q. IsRaised q cells place end st.table.array) ready d
    (omega (arith, r)) d.holds.cells in
    absurd (c.in_err-write.ensures s d.graph d.holds.array
    (ready_less s 3 2 c.move_up.new.heap cells d.graph d.holds.array (omega arith) second)
    (omega (arith, n, size, r)) (omega arith))

pub returns : goal.returns
returns c s g xs st f size few apart =
    let cells = c.args.self.now in
    let heap = c.args.heap.now in
    let count = c.args.count in
    let place = 2 * c.from-place.result in
    let end = 2 * c.from-end.result in
    let most = 4 * count + 3 in
    let r = row_in g cells count c.args.key c.args.row xs st.table f in
    let l = st.table.cells.size in
    let ready = ready_of s most most heap cells g count xs st (omega arith) in
    let d = c.in_ok-move_up.ensures s g st.table.array
    (ready_of s most (2 * (end - place)) heap cells g count xs st (omega (arith, r)))
    (omega (arith, l, size)) (omega (arith, r)) in
    let n = d.holds.cells.size in
    let second = ready_then s (2 * (end - place)) 3 most heap c.move_up.new.heap (cells.spare ∷ []) cells g
    st.table.array d.holds.array (λ q. IsRaised q cells place end st.table.array) ready d
    (omega (arith, r)) d.holds.cells in
    let same : c.from.result ≡ c.args.key = omega arith in
    let e = subst (λ k. Does s 2 c.move_up.new.heap c.write.new.heap (cells.spare ∷ []) cells.array d.graph
    (λ q. IsCells q cells (slice_set d.holds.array place (Int k)))) same
    (c.in_ok-write.ensures s d.graph d.holds.array
    (ready_less s 3 2 c.move_up.new.heap cells d.graph d.holds.array (omega arith) second)
    (omega (arith, n, size, r)) (omega arith)) in
    ok_map _ _ c.put.result
    (λ u p. row_added s cells count c.args.key c.args.row xs heap g c.move_up.new.heap
    c.write.new.heap c.put.new.heap c.args.from place end (place + 1) st f (omega arith) size apart
    (omega arith) (omega arith) refl d e p)
    (c.put.ensures s e.graph (slice_set d.holds.array place (Int c.args.key))
    (ready_then s 2 1 3 c.move_up.new.heap c.write.new.heap (cells.spare ∷ []) cells d.graph
    d.holds.array (slice_set d.holds.array place (Int c.args.key))
    (λ q. IsCells q cells (slice_set d.holds.array place (Int c.args.key))) second e (omega arith) e.holds)
    (let o = e.holds.size in omega (arith, o, size, r)) few)
