use Rattle.std.proofs.Common.{◌<◌, ◌∷◌, [], arith}
use Rattle.heap_structures.specs.Tables.{IsTable}
use Rattle.heap_structures.proofs.maps.MapCalls.{map_stocked, nth_found}
use Rattle.heap_structures.proofs.tables.TableCalls.{stocked_then}
use Rattle.heap_structures.proofs.map.Map.nth.Goals as goal

pub returns-in_err-key : goal.returns-in_err-key
returns-in_err-key c s g xs has m =
    let cells = c.args.self.now.cells in
    let count = c.args.self.now.count in
    let heap = c.args.heap.now in
    let room = c.in_ok-admit.ensures.admitted in
    let low : c.args.i < count = omega arith in
    let st = map_stocked s 2 1 heap cells g count xs has m room.1 (omega arith) in
    absurd (c.in_err-key.ensures s g count xs st low)

pub returns-in_err-value : goal.returns-in_err-value
returns-in_err-value c s g xs has m =
    let cells = c.args.self.now.cells in
    let count = c.args.self.now.count in
    let heap = c.args.heap.now in
    let room = c.in_ok-admit.ensures.admitted in
    let low : c.args.i < count = omega arith in
    let st = map_stocked s 2 1 heap cells g count xs has m room.1 (omega arith) in
    let may = c.may_load.ensures.yes room.0 in
    let f = c.in_ok-key.ensures s g count xs st low in
    let next = stocked_then s 1 1 2 heap c.key_at.new.heap (cells.spare ∷ []) cells g count xs
    (λ w. IsTable w cells count xs)
    (map_stocked s 2 2 heap cells g count xs has m room.1 (omega arith)) f.1 (omega arith) f.1.holds in
    absurd (c.in_err-value.ensures s f.1.graph count xs next low may.0 may.1)

pub returns : goal.returns
returns c s g xs has m =
    let cells = c.args.self.now.cells in
    let count = c.args.self.now.count in
    let heap = c.args.heap.now in
    let room = c.in_ok-admit.ensures.admitted in
    let low : c.args.i < count = omega arith in
    let st = map_stocked s 2 1 heap cells g count xs has m room.1 (omega arith) in
    let may = c.may_load.ensures.yes room.0 in
    let f = c.in_ok-key.ensures s g count xs st low in
    let next = stocked_then s 1 1 2 heap c.key_at.new.heap (cells.spare ∷ []) cells g count xs
    (λ w. IsTable w cells count xs)
    (map_stocked s 2 2 heap cells g count xs has m room.1 (omega arith)) f.1 (omega arith) f.1.holds in
    nth_found s cells count 0 xs heap g m.counted c.key_at.new.heap c.args.d 0 c.load.new.heap
    c.args.i c.in_ok-key.key c.in_ok-value.value low f
    (c.in_ok-value.ensures s f.1.graph count xs next low may.0 may.1)
