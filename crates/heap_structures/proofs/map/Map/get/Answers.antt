use Rattle.std.proofs.Common.{◌+◌, ◌∷◌, [], subst, arith}
use Rattle.heap_structures.specs.Heaps.{Does}
use Rattle.heap_structures.specs.Tables.{Finds, IsTable, digits}
use Rattle.heap_structures.proofs.maps.MapCalls.{map_stocked, get_found, get_none}
use Rattle.heap_structures.proofs.tables.TableCalls.{row_of, stocked_then}
use Rattle.heap_structures.proofs.map.Map.get.Goals as goal

pub returns-in_err-place : goal.returns-in_err-place
returns-in_err-place c s g xs has m =
    let cells = c.args.self.now.cells in
    let count = c.args.self.now.count in
    let heap = c.args.heap.now in
    let room = c.in_ok-admit.ensures.admitted in
    let st = map_stocked s c.to_get.result (digits count + 1) heap cells g count xs has m room.1 (omega arith) in
    absurd (c.in_err-place.ensures.finds s g xs st)

pub returns-in_err-value-in-Row : goal.returns-in_err-value-in-Row
returns-in_err-value-in-Row c s g xs has m =
    let cells = c.args.self.now.cells in
    let count = c.args.self.now.count in
    let heap = c.args.heap.now in
    let room = c.in_ok-admit.ensures.admitted in
    let st = map_stocked s c.to_get.result (digits count + 1) heap cells g count xs has m room.1 (omega arith) in
    let f = subst (λ p. Finds c.args.key xs p
    × Does s (digits count + 1) heap c.find.new.heap (cells.spare ∷ []) cells.array g
    (λ w. IsTable w cells count xs)) c.in-Row.is (c.in_ok-place.ensures.finds s g xs st) in
    let may = c.may_load.ensures.yes room.0 in
    let low = row_of g cells count c.args.key c.in-Row.row xs m f.0 in
    let next = stocked_then s (digits count + 1) 1 (digits count + 1 + 1) heap c.find.new.heap
    (cells.spare ∷ []) cells g count xs (λ w. IsTable w cells count xs)
    (map_stocked s c.to_get.result (digits count + 1 + 1) heap cells g count xs has m room.1 (omega arith))
    f.1 (omega arith) f.1.holds in
    absurd (c.in_err-value-in-Row.ensures s f.1.graph count xs next low may.0 may.1)

pub returns-in_ok-value-in-Row : goal.returns-in_ok-value-in-Row
returns-in_ok-value-in-Row c s g xs has m =
    let cells = c.args.self.now.cells in
    let count = c.args.self.now.count in
    let heap = c.args.heap.now in
    let room = c.in_ok-admit.ensures.admitted in
    let st = map_stocked s c.to_get.result (digits count + 1) heap cells g count xs has m room.1 (omega arith) in
    let f = subst (λ p. Finds c.args.key xs p
    × Does s (digits count + 1) heap c.find.new.heap (cells.spare ∷ []) cells.array g
    (λ w. IsTable w cells count xs)) c.in-Row.is (c.in_ok-place.ensures.finds s g xs st) in
    let may = c.may_load.ensures.yes room.0 in
    let low = row_of g cells count c.args.key c.in-Row.row xs m f.0 in
    let next = stocked_then s (digits count + 1) 1 (digits count + 1 + 1) heap c.find.new.heap
    (cells.spare ∷ []) cells g count xs (λ w. IsTable w cells count xs)
    (map_stocked s c.to_get.result (digits count + 1 + 1) heap cells g count xs has m room.1 (omega arith))
    f.1 (omega arith) f.1.holds in
    get_found s cells count c.args.key xs heap g m.counted c.find.new.heap c.args.d c.in-Row.row
    c.load.new.heap c.in_ok-value-in-Row.value f
    (c.in_ok-value-in-Row.ensures s f.1.graph count xs next low may.0 may.1)

pub returns-in-Before : goal.returns-in-Before
returns-in-Before c s g xs has m =
    let cells = c.args.self.now.cells in
    let count = c.args.self.now.count in
    let heap = c.args.heap.now in
    let room = c.in_ok-admit.ensures.admitted in
    let st = map_stocked s c.to_get.result (digits count + 1) heap cells g count xs has m room.1 (omega arith) in
    let f = subst (λ p. Finds c.args.key xs p
    × Does s (digits count + 1) heap c.find.new.heap (cells.spare ∷ []) cells.array g
    (λ w. IsTable w cells count xs)) c.in-Before.is (c.in_ok-place.ensures.finds s g xs st) in
    get_none s cells count c.args.key xs heap g m.counted c.find.new.heap c.args.d
    c.in-Before.field-0 f
