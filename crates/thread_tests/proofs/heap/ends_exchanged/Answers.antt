use Rattle.std.proofs.Common.{◌<◌, ◌-◌, arith, length}
use Rattle.thread_tests.proofs.WorkersOfHeap.{exchanged}
use Rattle.thread_tests.proofs.heap.ends_exchanged.Goals as goal

pub returns-then-count-gt1 : goal.returns-then-count-gt1
returns-then-count-gt1 c =
    let one : 1 < length c.args.workers.items =
    omega (arith, c.if-count-gt1.true, c.len-count.ensures, c.args.workers.ok.0) in
    exchanged c.args.heap.now c.args.workers.items c.swap.new.self.items 0 (c.len-count.result - 1)
    c.requires c.swap.ensures.by_index (omega (arith, one))
    (omega (arith, one, c.len-count.ensures, c.args.workers.ok.0))
    (omega (arith, c.swap.ensures.len, c.swap.new.self.ok.0, c.args.workers.ok.0))
