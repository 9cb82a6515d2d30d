use Rattle.std.proofs.Common.{◌≡◌, true, arith}
use Rattle.heapsh.proofs.WorkerSeats.{each_more}
use Rattle.heapsh.proofs.crew.has_each.Goals as goal

pub loop-t-preserved : goal.loop-t-preserved
loop-t-preserved c =
    let yes : c.has_worker.result ≡ true = grind arith in
    each_more c.args.workers.now.items c.loop-t.t c.loop-t.invariant (c.has_worker.ensures yes)
