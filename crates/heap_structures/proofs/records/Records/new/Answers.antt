use Rattle.std.proofs.Common.{[]}
use Rattle.heap_structures.proofs.cell_arrays.Opening.{opens_as}
use Rattle.heap_structures.proofs.records.Records.new.Goals as goal

pub returns-clause-opens : goal.returns-clause-opens
returns-clause-opens c s g has may =
    let r = c.in_ok-ring.ring in
    opens_as s c.args.heap.now c.new.new.heap r.cells g _ _ (c.in_ok-ring.ensures.opens s g has may)
    (λ ring free. record { names = []; ring = ring; numbers = tt; free = free })
