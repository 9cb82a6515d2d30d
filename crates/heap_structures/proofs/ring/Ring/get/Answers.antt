use Rattle.std.proofs.Common.{◌<◌, length, sym, subst, arith}
use Rattle.heap_structures.proofs.rings.Rounds.{at_low, fetched, round_ready}
use Rattle.heap_structures.proofs.ring.Ring.get.Goals as goal

pub returns : goal.returns
returns c s g xs has r =
    let ring = c.args.self.now in
    let room = c.in_ok-admit.ensures.admitted in
    let may = c.may_load.ensures.yes room.0 in
    let low : c.args.i < ring.count = omega (arith, c.if-i-self.false) in
    fetched g ring.cells ring.first ring.count xs r s c.args.heap.now c.get.new.heap c.args.d
    c.around-place.result c.in_ok-value.value c.args.i low c.around-place.ensures
    (c.in_ok-value.ensures s g r.array
    (round_ready g ring.cells ring.first ring.count xs r s 1 c.args.heap.now has room.1)
    (subst (λ n. n < length r.array) (sym c.around-place.ensures)
    (at_low g ring.cells ring.first ring.count xs r c.args.i low))
    may.0 may.1)
