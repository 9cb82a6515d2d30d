use Rattle.std.proofs.Common.{◌<◌, arith}
use Rattle.shared_heap.proofs.WorkersInOrder.{nobody}
use Rattle.shared_heap.proofs.heap.place_of.Goals as goal

pub unreachable-requires : goal.unreachable-requires
unreachable-requires c =
    let j = c.requires in
    let low : j.0 < c.loop-j.j = omega (arith, j.2, c.loop-j-test.false) in
    c.loop-j.invariant j.0 nobody j.1 low j.2 (j.3 nobody)
