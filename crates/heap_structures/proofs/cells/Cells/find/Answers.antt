use Rattle.std.proofs.Common.{◌+◌, ◌∷◌, [], arith}
use Rattle.heap_structures.specs.Tables.{IsTable, digits}
use Rattle.heap_structures.proofs.tables.TableCalls.{found_end, found_none, found_row, stocked_less, stocked_then}
use Rattle.heap_structures.proofs.cells.Cells.find.Goals as goal

pub returns-in_err-row-clause-finds : goal.returns-in_err-row-clause-finds
returns-in_err-row-clause-finds c s g xs st =
    absurd (c.in_err-row.ensures s g xs
    (stocked_less s (digits c.args.count + 1) (digits c.args.count) c.args.heap.now c.args.self.now g
    c.args.count xs (omega arith) st))

pub returns-then-row-count-clause-finds : goal.returns-then-row-count-clause-finds
returns-then-row-count-clause-finds c s g xs st =
    let d = c.in_ok-row.ensures s g xs
    (stocked_less s (digits c.args.count + 1) (digits c.args.count) c.args.heap.now c.args.self.now g
    c.args.count xs (omega arith) st) in
    found_end s c.args.self.now c.args.count c.args.key xs (digits c.args.count)
    (digits c.args.count + 1) c.args.heap.now c.rank.new.heap g c.in_ok-row.row d.0 (omega arith) d.1
    (omega arith)

pub returns-in_err-here-clause-finds : goal.returns-in_err-here-clause-finds
returns-in_err-here-clause-finds c s g xs st =
    let d = c.in_ok-row.ensures s g xs
    (stocked_less s (digits c.args.count + 1) (digits c.args.count) c.args.heap.now c.args.self.now g
    c.args.count xs (omega arith) st) in
    absurd (c.in_err-here.ensures s d.1.graph c.args.count xs
    (stocked_then s (digits c.args.count) 1 (digits c.args.count + 1) c.args.heap.now
    c.rank.new.heap (c.args.self.now.spare ∷ []) c.args.self.now g c.args.count xs
    (λ w. IsTable w c.args.self.now c.args.count xs) st d.1 (omega arith) d.1.holds) (omega arith))

pub returns-then-here-key-clause-finds : goal.returns-then-here-key-clause-finds
returns-then-here-key-clause-finds c s g xs st =
    let d = c.in_ok-row.ensures s g xs
    (stocked_less s (digits c.args.count + 1) (digits c.args.count) c.args.heap.now c.args.self.now g
    c.args.count xs (omega arith) st) in
    found_row s c.args.self.now c.args.count c.args.key xs (digits c.args.count)
    (digits c.args.count + 1) c.args.heap.now c.rank.new.heap g c.in_ok-row.row d.0
    c.key_at.new.heap c.in_ok-here.here d.1
    (c.in_ok-here.ensures s d.1.graph c.args.count xs
    (stocked_then s (digits c.args.count) 1 (digits c.args.count + 1) c.args.heap.now
    c.rank.new.heap (c.args.self.now.spare ∷ []) c.args.self.now g c.args.count xs
    (λ w. IsTable w c.args.self.now c.args.count xs) st d.1 (omega arith) d.1.holds) (omega arith))
    c.if-here-key.true (omega arith) (omega arith)

pub returns-else-here-key-clause-finds : goal.returns-else-here-key-clause-finds
returns-else-here-key-clause-finds c s g xs st =
    let d = c.in_ok-row.ensures s g xs
    (stocked_less s (digits c.args.count + 1) (digits c.args.count) c.args.heap.now c.args.self.now g
    c.args.count xs (omega arith) st) in
    found_none s c.args.self.now c.args.count c.args.key xs (digits c.args.count)
    (digits c.args.count + 1) c.args.heap.now c.rank.new.heap g c.in_ok-row.row d.0
    c.key_at.new.heap c.in_ok-here.here d.1
    (c.in_ok-here.ensures s d.1.graph c.args.count xs
    (stocked_then s (digits c.args.count) 1 (digits c.args.count + 1) c.args.heap.now
    c.rank.new.heap (c.args.self.now.spare ∷ []) c.args.self.now g c.args.count xs
    (λ w. IsTable w c.args.self.now c.args.count xs) st d.1 (omega arith) d.1.holds) (omega arith))
    c.if-here-key.false (omega arith)
