use Rattle.std.proofs.Common.{◌+◌, ◌<◌, ◌++◌, ◌∷◌, [], length, sym, subst, arith}
use Rattle.std.proofs.lemmas.Bool.{ltb-true}
use Rattle.heap_structures.specs.Cells.{held}
use Rattle.heap_structures.specs.Rings.{IsRound}
use Rattle.heap_structures.proofs.cell_arrays.Chained.{does_wider}
use Rattle.heap_structures.proofs.rings.Rounds.{put_more, place_low, round_ready}
use Rattle.heap_structures.proofs.queue.Queue.push.Goals as goal

pub returns-clause-shows : goal.returns-clause-shows
returns-clause-shows c s g xs has r =
    let queue = c.args.self.now in
    let room = c.in_ok-admit.ensures.admitted in
    let low : queue.count < queue.cells.size = omega (arith, c.if-self.false) in
    does_wider s 1 c.args.heap.now c.put.new.heap [] [] queue.cells.array g
    (λ y. IsRound y queue.cells queue.first (queue.count + 1) (xs ++ held g c.args.from ∷ [])) _
    (λ q none. none)
    (put_more g queue.cells queue.first queue.count xs r s c.args.heap.now c.put.new.heap
    c.around-place.result (held g c.args.from) c.around-place.ensures low
    (c.in_ok-put.ensures s g r.array
    (round_ready g queue.cells queue.first queue.count xs r s 1 c.args.heap.now has room.1)
    (subst (λ n. n < length r.array) (sym c.around-place.ensures)
    (place_low g queue.cells queue.first queue.count xs r))
    (ltb-true c.args.from 16 room.0)))
    (λ is. (omega (arith, low, r.counted), is))
