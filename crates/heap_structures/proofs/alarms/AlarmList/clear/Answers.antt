use Rattle.std.proofs.Common.{◌+◌, ◌*◌, refl, subst, arith}
use Rattle.heap_structures.specs.Alarms.{Finds}
use Rattle.heap_structures.proofs.cell_arrays.Answered.{room_less}
use Rattle.heap_structures.proofs.alarm_lists.AlarmCalls.{close_room, closes, not_cleared, walk_room}
use Rattle.heap_structures.proofs.alarms.AlarmList.clear.Goals as goal

pub returns-in_err-place-clause-shows : goal.returns-in_err-place-clause-shows
returns-in_err-place-clause-shows c s g xs has r =
    absurd (c.in_err-place.ensures.finds s g xs has r
    (walk_room g c.args.self.now xs r (2 * c.from.result + 1) c.args.heap.now
    (omega (arith, c.from.ensures)) c.in_ok-admit.ensures.admitted.1))

pub returns-in_err-close-in-Some-clause-shows : goal.returns-in_err-close-in-Some-clause-shows
returns-in_err-close-in-Some-clause-shows c s g xs has r =
    let l = c.args.self.now in
    let f = subst (λ p. Finds s c.args.heap.now c.find.new.heap g l xs c.args.number p) c.in-Some.is
    (c.in_ok-place.ensures.finds s g xs has r
    (walk_room g l xs r (2 * c.from.result + 1) c.args.heap.now (omega (arith, c.from.ensures))
    c.in_ok-admit.ensures.admitted.1)) in
    absurd (c.in_err-close-in-Some.ensures s f.1.graph _ f.1.has f.1.holds
    (close_room s g c.args.heap.now c.find.new.heap c.find.new.heap l xs c.args.number
    c.in-Some.place f.0 f.1
    (room_less (2 * c.from.result + 1) (2 * l.cells.size + 1) c.args.heap.now
    (omega (arith, c.from.ensures)) c.in_ok-admit.ensures.admitted.1)))

pub returns-in_ok-close-in-Some-clause-shows : goal.returns-in_ok-close-in-Some-clause-shows
returns-in_ok-close-in-Some-clause-shows c s g xs has r =
    let l = c.args.self.now in
    let f = subst (λ p. Finds s c.args.heap.now c.find.new.heap g l xs c.args.number p) c.in-Some.is
    (c.in_ok-place.ensures.finds s g xs has r
    (walk_room g l xs r (2 * c.from.result + 1) c.args.heap.now (omega (arith, c.from.ensures))
    c.in_ok-admit.ensures.admitted.1)) in
    closes s g c.args.heap.now c.find.new.heap c.close.new.heap l xs c.args.number
    c.in-Some.place f.0 f.1 _ refl refl
    (c.in_ok-close-in-Some.ensures s f.1.graph _ f.1.has f.1.holds
    (close_room s g c.args.heap.now c.find.new.heap c.find.new.heap l xs c.args.number
    c.in-Some.place f.0 f.1
    (room_less (2 * c.from.result + 1) (2 * l.cells.size + 1) c.args.heap.now
    (omega (arith, c.from.ensures)) c.in_ok-admit.ensures.admitted.1)))

pub returns-in-None-clause-shows : goal.returns-in-None-clause-shows
returns-in-None-clause-shows c s g xs has r =
    let l = c.args.self.now in
    let f = subst (λ p. Finds s c.args.heap.now c.find.new.heap g l xs c.args.number p) c.in-None.is
    (c.in_ok-place.ensures.finds s g xs has r
    (walk_room g l xs r (2 * c.from.result + 1) c.args.heap.now (omega (arith, c.from.ensures))
    c.in_ok-admit.ensures.admitted.1)) in
    not_cleared s g c.args.heap.now c.find.new.heap c.find.new.heap l xs c.args.number f.0 f.1
