use Rattle.std.proofs.Common.{◌<◌, length, sym, subst, arith}
use Rattle.heap_structures.proofs.rings.Rounds.{first_low, popped, round_ready}
use Rattle.heap_structures.proofs.queue.Queue.pop.Goals as goal

pub returns-clause-shows : goal.returns-clause-shows
returns-clause-shows c s g xs has r =
    let queue = c.args.self.now in
    let room = c.in_ok-admit.ensures.admitted in
    let may = c.may_load.ensures.yes room.0 in
    popped g queue.cells queue.first queue.count xs r s c.args.heap.now c.take.new.heap c.args.d
    c.from.result c.in_ok-value.value c.next-self.result (omega (arith, c.if-self-eq0.false)) c.from.ensures
    c.next-self.ensures
    (c.in_ok-value.ensures s g r.array
    (round_ready g queue.cells queue.first queue.count xs r s 3 c.args.heap.now has room.1)
    (subst (λ n. n < length r.array) (sym c.from.ensures)
    (first_low g queue.cells queue.first queue.count xs r))
    may.0 may.1 may.2)
