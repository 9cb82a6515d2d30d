use Rattle.std.proofs.Common.{◌+◌, ◌*◌, ◌∷◌, [], subst, arith}
use Rattle.heap_structures.specs.Heaps.{Does}
use Rattle.heap_structures.specs.Tables.{Finds, IsTable, digits}
use Rattle.heap_structures.proofs.maps.MapCalls.{map_stocked, insert_full, insert_new, insert_old}
use Rattle.heap_structures.proofs.tables.TableCalls.{stocked_then}
use Rattle.heap_structures.proofs.map.Map.insert.Goals as goal

pub returns-in_err-place-clause-shows : goal.returns-in_err-place-clause-shows
returns-in_err-place-clause-shows c s g xs has m =
    let cells = c.args.self.now.cells in
    let count = c.args.self.now.count in
    let heap = c.args.heap.now in
    let room = c.in_ok-admit.ensures.admitted in
    let may = c.may_load.ensures.yes room.0 in
    let st = map_stocked s c.to_change.result (digits count + 1) heap cells g count xs has m room.1
    (omega arith) in
    absurd (c.in_err-place.ensures.finds s g xs st)

pub returns-in_err-old-in-Row-clause-shows : goal.returns-in_err-old-in-Row-clause-shows
returns-in_err-old-in-Row-clause-shows c s g xs has m =
    let cells = c.args.self.now.cells in
    let count = c.args.self.now.count in
    let heap = c.args.heap.now in
    let room = c.in_ok-admit.ensures.admitted in
    let may = c.may_load.ensures.yes room.0 in
    let st = map_stocked s c.to_change.result (digits count + 1) heap cells g count xs has m room.1
    (omega arith) in
    let f = subst (λ p. Finds c.args.key xs p
    × Does s (digits count + 1) heap c.find.new.heap (cells.spare ∷ []) cells.array g
    (λ w. IsTable w cells count xs)) c.in-Row.is (c.in_ok-place.ensures.finds s g xs st) in
    let next = stocked_then s (digits count + 1) (2) (digits count + 1 + (2)) heap
    c.find.new.heap (cells.spare ∷ []) cells g count xs (λ w. IsTable w cells count xs)
    (map_stocked s c.to_change.result (digits count + 1 + (2)) heap cells g count xs has m room.1
    (omega arith)) f.1 (omega arith) f.1.holds in
    absurd (c.in_err-old-in-Row.ensures s f.1.graph count xs c.args.key next (omega arith) f.0 may.0 may.2)

pub returns-in_ok-old-in-Row-clause-shows : goal.returns-in_ok-old-in-Row-clause-shows
returns-in_ok-old-in-Row-clause-shows c s g xs has m =
    let cells = c.args.self.now.cells in
    let count = c.args.self.now.count in
    let heap = c.args.heap.now in
    let room = c.in_ok-admit.ensures.admitted in
    let may = c.may_load.ensures.yes room.0 in
    let st = map_stocked s c.to_change.result (digits count + 1) heap cells g count xs has m room.1
    (omega arith) in
    let f = subst (λ p. Finds c.args.key xs p
    × Does s (digits count + 1) heap c.find.new.heap (cells.spare ∷ []) cells.array g
    (λ w. IsTable w cells count xs)) c.in-Row.is (c.in_ok-place.ensures.finds s g xs st) in
    let next = stocked_then s (digits count + 1) (2) (digits count + 1 + (2)) heap
    c.find.new.heap (cells.spare ∷ []) cells g count xs (λ w. IsTable w cells count xs)
    (map_stocked s c.to_change.result (digits count + 1 + (2)) heap cells g count xs has m room.1
    (omega arith)) f.1 (omega arith) f.1.holds in
    insert_old s cells count c.args.key xs heap g m.counted c.find.new.heap c.args.from c.in-Row.row may.2
    c.replace.new.heap c.in_ok-old-in-Row.old f
    (c.in_ok-old-in-Row.ensures s f.1.graph count xs c.args.key next (omega arith) f.0 may.0 may.2)

pub returns-then-self-clause-shows : goal.returns-then-self-clause-shows
returns-then-self-clause-shows c s g xs has m =
    let cells = c.args.self.now.cells in
    let count = c.args.self.now.count in
    let heap = c.args.heap.now in
    let room = c.in_ok-admit.ensures.admitted in
    let may = c.may_load.ensures.yes room.0 in
    let st = map_stocked s c.to_change.result (digits count + 1) heap cells g count xs has m room.1
    (omega arith) in
    let f = subst (λ p. Finds c.args.key xs p
    × Does s (digits count + 1) heap c.find.new.heap (cells.spare ∷ []) cells.array g
    (λ w. IsTable w cells count xs)) c.in-Before.is (c.in_ok-place.ensures.finds s g xs st) in
    insert_full s cells count c.args.key xs heap g m.counted c.find.new.heap c.args.from c.in-Before.row may.2
    (omega arith) f

pub returns-in_err-add_row-in-Before-clause-shows : goal.returns-in_err-add_row-in-Before-clause-shows
returns-in_err-add_row-in-Before-clause-shows c s g xs has m =
    let cells = c.args.self.now.cells in
    let count = c.args.self.now.count in
    let heap = c.args.heap.now in
    let room = c.in_ok-admit.ensures.admitted in
    let may = c.may_load.ensures.yes room.0 in
    let st = map_stocked s c.to_change.result (digits count + 1) heap cells g count xs has m room.1
    (omega arith) in
    let f = subst (λ p. Finds c.args.key xs p
    × Does s (digits count + 1) heap c.find.new.heap (cells.spare ∷ []) cells.array g
    (λ w. IsTable w cells count xs)) c.in-Before.is (c.in_ok-place.ensures.finds s g xs st) in
    let next = stocked_then s (digits count + 1) (4 * count + 3) (digits count + 1 + (4 * count + 3)) heap
    c.find.new.heap (cells.spare ∷ []) cells g count xs (λ w. IsTable w cells count xs)
    (map_stocked s c.to_change.result (digits count + 1 + (4 * count + 3)) heap cells g count xs has m room.1
    (omega arith)) f.1 (omega arith) f.1.holds in
    absurd (c.in_err-add_row-in-Before.ensures s f.1.graph xs next f.0 (omega arith) may.0 may.2)

pub returns-in_ok-add_row-in-Before-clause-shows : goal.returns-in_ok-add_row-in-Before-clause-shows
returns-in_ok-add_row-in-Before-clause-shows c s g xs has m =
    let cells = c.args.self.now.cells in
    let count = c.args.self.now.count in
    let heap = c.args.heap.now in
    let room = c.in_ok-admit.ensures.admitted in
    let may = c.may_load.ensures.yes room.0 in
    let st = map_stocked s c.to_change.result (digits count + 1) heap cells g count xs has m room.1
    (omega arith) in
    let f = subst (λ p. Finds c.args.key xs p
    × Does s (digits count + 1) heap c.find.new.heap (cells.spare ∷ []) cells.array g
    (λ w. IsTable w cells count xs)) c.in-Before.is (c.in_ok-place.ensures.finds s g xs st) in
    let next = stocked_then s (digits count + 1) (4 * count + 3) (digits count + 1 + (4 * count + 3)) heap
    c.find.new.heap (cells.spare ∷ []) cells g count xs (λ w. IsTable w cells count xs)
    (map_stocked s c.to_change.result (digits count + 1 + (4 * count + 3)) heap cells g count xs has m room.1
    (omega arith)) f.1 (omega arith) f.1.holds in
    insert_new s cells count c.args.key xs heap g m.counted c.find.new.heap c.args.from c.in-Before.row may.2
    c.add_row.new.heap (omega arith) f
    (c.in_ok-add_row-in-Before.ensures s f.1.graph xs next f.0 (omega arith) may.0 may.2)
