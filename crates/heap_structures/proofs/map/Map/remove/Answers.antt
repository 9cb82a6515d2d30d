use Rattle.std.proofs.Common.{◌+◌, ◌*◌, ◌≡◌, ◌∷◌, [], subst, arith}
use Rattle.heap_structures.specs.Cells.{held}
use Rattle.heap_structures.specs.Heaps.{Does}
use Rattle.heap_structures.specs.Tables.{Finds, IsTable, digits}
use Rattle.heap_structures.proofs.maps.MapCalls.{map_stocked, remove_found, remove_none}
use Rattle.heap_structures.proofs.tables.TableCalls.{row_of, stocked_less, stocked_then}
use Rattle.heap_structures.proofs.map.Map.remove.Goals as goal

pub returns-in_err-place-clause-shows : goal.returns-in_err-place-clause-shows
returns-in_err-place-clause-shows c s g xs has m =
    let cells = c.args.self.now.cells in
    let count = c.args.self.now.count in
    let heap = c.args.heap.now in
    let room = c.in_ok-admit.ensures.admitted in
    let may = c.may_load.ensures.yes room.0 in
    let st = map_stocked s c.to_change.result (digits count + 1) heap cells g count xs has m room.1
    (omega arith) in
    absurd (c.in_err-place.ensures.finds s g xs st)

pub returns-in_err-old-in-Row-clause-shows : goal.returns-in_err-old-in-Row-clause-shows
returns-in_err-old-in-Row-clause-shows c s g xs has m =
    let cells = c.args.self.now.cells in
    let count = c.args.self.now.count in
    let heap = c.args.heap.now in
    let room = c.in_ok-admit.ensures.admitted in
    let may = c.may_load.ensures.yes room.0 in
    let st = map_stocked s c.to_change.result (digits count + 1) heap cells g count xs has m room.1
    (omega arith) in
    let f = subst (λ p. Finds c.args.key xs p
    × Does s (digits count + 1) heap c.find.new.heap (cells.spare ∷ []) cells.array g
    (λ w. IsTable w cells count xs)) c.in-Row.is (c.in_ok-place.ensures.finds s g xs st) in
    let low = row_of g cells count c.args.key c.in-Row.row xs m f.0 in
    let next = stocked_then s (digits count + 1) (1 + 4 * count) (digits count + 1 + (1 + 4 * count)) heap
    c.find.new.heap (cells.spare ∷ []) cells g count xs (λ w. IsTable w cells count xs)
    (map_stocked s c.to_change.result (digits count + 1 + (1 + 4 * count)) heap cells g count xs has m room.1
    (omega arith)) f.1 (omega arith) f.1.holds in
    let one = stocked_less s (1 + 4 * count) 1 c.find.new.heap cells f.1.graph count xs (omega arith) next in
    absurd (c.in_err-old-in-Row.ensures s f.1.graph count xs one low may.0 may.1)

pub returns-in_err-remove_row-in-Row-clause-shows : goal.returns-in_err-remove_row-in-Row-clause-shows
returns-in_err-remove_row-in-Row-clause-shows c s g xs has m =
    let cells = c.args.self.now.cells in
    let count = c.args.self.now.count in
    let heap = c.args.heap.now in
    let room = c.in_ok-admit.ensures.admitted in
    let may = c.may_load.ensures.yes room.0 in
    let st = map_stocked s c.to_change.result (digits count + 1) heap cells g count xs has m room.1
    (omega arith) in
    let f = subst (λ p. Finds c.args.key xs p
    × Does s (digits count + 1) heap c.find.new.heap (cells.spare ∷ []) cells.array g
    (λ w. IsTable w cells count xs)) c.in-Row.is (c.in_ok-place.ensures.finds s g xs st) in
    let low = row_of g cells count c.args.key c.in-Row.row xs m f.0 in
    let next = stocked_then s (digits count + 1) (1 + 4 * count) (digits count + 1 + (1 + 4 * count)) heap
    c.find.new.heap (cells.spare ∷ []) cells g count xs (λ w. IsTable w cells count xs)
    (map_stocked s c.to_change.result (digits count + 1 + (1 + 4 * count)) heap cells g count xs has m room.1
    (omega arith)) f.1 (omega arith) f.1.holds in
    let one = stocked_less s (1 + 4 * count) 1 c.find.new.heap cells f.1.graph count xs (omega arith) next in
    let l = c.in_ok-old-in-Row.ensures s f.1.graph count xs one low may.0 may.1 in
    let rest = stocked_then s 1 (4 * count) (1 + 4 * count) c.find.new.heap c.load.new.heap
    (c.args.d ∷ []) cells f.1.graph count xs
    (λ w. IsTable w cells count xs × (held w c.args.d ≡ c.in_ok-old-in-Row.old)) next l.1 (omega arith)
    l.1.holds.0 in
    absurd (c.in_err-remove_row-in-Row.ensures s l.1.graph xs c.args.key rest f.0)

pub returns-in_ok-remove_row-in-Row-clause-shows : goal.returns-in_ok-remove_row-in-Row-clause-shows
returns-in_ok-remove_row-in-Row-clause-shows c s g xs has m =
    let cells = c.args.self.now.cells in
    let count = c.args.self.now.count in
    let heap = c.args.heap.now in
    let room = c.in_ok-admit.ensures.admitted in
    let may = c.may_load.ensures.yes room.0 in
    let st = map_stocked s c.to_change.result (digits count + 1) heap cells g count xs has m room.1
    (omega arith) in
    let f = subst (λ p. Finds c.args.key xs p
    × Does s (digits count + 1) heap c.find.new.heap (cells.spare ∷ []) cells.array g
    (λ w. IsTable w cells count xs)) c.in-Row.is (c.in_ok-place.ensures.finds s g xs st) in
    let low = row_of g cells count c.args.key c.in-Row.row xs m f.0 in
    let next = stocked_then s (digits count + 1) (1 + 4 * count) (digits count + 1 + (1 + 4 * count)) heap
    c.find.new.heap (cells.spare ∷ []) cells g count xs (λ w. IsTable w cells count xs)
    (map_stocked s c.to_change.result (digits count + 1 + (1 + 4 * count)) heap cells g count xs has m room.1
    (omega arith)) f.1 (omega arith) f.1.holds in
    let one = stocked_less s (1 + 4 * count) 1 c.find.new.heap cells f.1.graph count xs (omega arith) next in
    let l = c.in_ok-old-in-Row.ensures s f.1.graph count xs one low may.0 may.1 in
    let rest = stocked_then s 1 (4 * count) (1 + 4 * count) c.find.new.heap c.load.new.heap
    (c.args.d ∷ []) cells f.1.graph count xs
    (λ w. IsTable w cells count xs × (held w c.args.d ≡ c.in_ok-old-in-Row.old)) next l.1 (omega arith)
    l.1.holds.0 in
    remove_found s cells count c.args.key xs heap g m.counted c.find.new.heap c.args.d c.in-Row.row
    c.load.new.heap c.remove_row.new.heap c.in_ok-old-in-Row.old may.2 f l
    (c.in_ok-remove_row-in-Row.ensures s l.1.graph xs c.args.key rest f.0)

pub returns-in-Before-clause-shows : goal.returns-in-Before-clause-shows
returns-in-Before-clause-shows c s g xs has m =
    let cells = c.args.self.now.cells in
    let count = c.args.self.now.count in
    let heap = c.args.heap.now in
    let room = c.in_ok-admit.ensures.admitted in
    let may = c.may_load.ensures.yes room.0 in
    let st = map_stocked s c.to_change.result (digits count + 1) heap cells g count xs has m room.1
    (omega arith) in
    let f = subst (λ p. Finds c.args.key xs p
    × Does s (digits count + 1) heap c.find.new.heap (cells.spare ∷ []) cells.array g
    (λ w. IsTable w cells count xs)) c.in-Before.is (c.in_ok-place.ensures.finds s g xs st) in
    remove_none s cells count c.args.key xs heap g m.counted c.find.new.heap c.args.d
    c.in-Before.field-0 f
