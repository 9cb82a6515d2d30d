use Rattle.std.proofs.Common.{◌<◌, length, sym, subst}
use Rattle.std.proofs.lemmas.Bool.{ltb-true}
use Rattle.heap_structures.specs.Cells.{held}
use Rattle.heap_structures.proofs.rings.Rounds.{last_full, last_more, place_low, round_ready}
use Rattle.heap_structures.proofs.ring.Ring.push.Goals as goal

pub returns-then-self-clause-shows : goal.returns-then-self-clause-shows
returns-then-self-clause-shows c s g xs has r =
    let ring = c.args.self.now in
    let room = c.in_ok-admit.ensures.admitted in
    last_more g ring.cells ring.first ring.count xs r s c.args.heap.now c.put.new.heap
    c.around-place.result (held g c.args.from) c.around-place.ensures c.if-self.true
    (c.in_ok-put.ensures s g r.array
    (round_ready g ring.cells ring.first ring.count xs r s 1 c.args.heap.now has room.1)
    (subst (λ n. n < length r.array) (sym c.around-place.ensures)
    (place_low g ring.cells ring.first ring.count xs r))
    (ltb-true c.args.from 16 room.0))

pub returns-else-self-clause-shows : goal.returns-else-self-clause-shows
returns-else-self-clause-shows c s g xs has r =
    let ring = c.args.self.now in
    let room = c.in_ok-admit.ensures.admitted in
    last_full g ring.cells ring.first ring.count xs r s c.args.heap.now c.put.new.heap
    c.around-place.result c.next-self.result (held g c.args.from) c.around-place.ensures
    c.if-self.false c.next-self.ensures
    (c.in_ok-put.ensures s g r.array
    (round_ready g ring.cells ring.first ring.count xs r s 1 c.args.heap.now has room.1)
    (subst (λ n. n < length r.array) (sym c.around-place.ensures)
    (place_low g ring.cells ring.first ring.count xs r))
    (ltb-true c.args.from 16 room.0))
