use Rattle.std.proofs.Common.{◌+◌, ◌^◌, subst, arith}
use Rattle.std.proofs.lemmas.Bool.{ltb-true}
use Rattle.heap_structures.specs.Alarms.{Finds}
use Rattle.heap_structures.proofs.cell_arrays.Answered.{room_less}
use Rattle.heap_structures.proofs.alarm_lists.AlarmCalls.{found_place, found_ready, not_acknowledged, walk_room, written}
use Rattle.heap_structures.proofs.alarms.AlarmList.acknowledge.Goals as goal

pub returns-in_err-place : goal.returns-in_err-place
returns-in_err-place c s g xs has r =
    absurd (c.in_err-place.ensures.finds s g xs has r
    (walk_room g c.args.self.now xs r (c.from.result + 2) c.args.heap.now
    (omega (arith, c.from.ensures)) c.in_ok-admit.ensures.admitted.1))

pub returns-in_err-write-in-Some : goal.returns-in_err-write-in-Some
returns-in_err-write-in-Some c s g xs has r =
    let l = c.args.self.now in
    let f = subst (λ p. Finds s c.args.heap.now c.find.new.heap g l xs c.args.number p) c.in-Some.is
    (c.in_ok-place.ensures.finds s g xs has r
    (walk_room g l xs r (c.from.result + 2) c.args.heap.now (omega (arith, c.from.ensures))
    c.in_ok-admit.ensures.admitted.1)) in
    let low = ltb-true c.args.number (2 ^ 61) c.in_ok-admit.ensures.admitted.0 in
    absurd (c.in_err-write-in-Some.ensures s f.1.graph f.1.holds.array
    (found_ready s g c.args.heap.now c.find.new.heap c.write.new.heap l xs c.args.number
    c.in-Some.place f.0 f.1
    (room_less (c.from.result + 2) (l.cells.size + 2) c.args.heap.now
    (omega (arith, c.from.ensures)) c.in_ok-admit.ensures.admitted.1))
    (found_place s g c.args.heap.now c.find.new.heap c.write.new.heap l xs c.args.number
    c.in-Some.place f.0 f.1 c.from-in-Some.result c.from-in-Some.ensures) (omega (arith, low)))

pub returns-in_ok-write-in-Some : goal.returns-in_ok-write-in-Some
returns-in_ok-write-in-Some c s g xs has r =
    let l = c.args.self.now in
    let f = subst (λ p. Finds s c.args.heap.now c.find.new.heap g l xs c.args.number p) c.in-Some.is
    (c.in_ok-place.ensures.finds s g xs has r
    (walk_room g l xs r (c.from.result + 2) c.args.heap.now (omega (arith, c.from.ensures))
    c.in_ok-admit.ensures.admitted.1)) in
    let low = ltb-true c.args.number (2 ^ 61) c.in_ok-admit.ensures.admitted.0 in
    written s g c.args.heap.now c.find.new.heap c.write.new.heap l xs c.args.number
    c.in-Some.place f.0 f.1 c.from-in-Some.result c.from-in-Some.ensures
    (c.in_ok-write-in-Some.ensures s f.1.graph f.1.holds.array
    (found_ready s g c.args.heap.now c.find.new.heap c.write.new.heap l xs c.args.number
    c.in-Some.place f.0 f.1
    (room_less (c.from.result + 2) (l.cells.size + 2) c.args.heap.now
    (omega (arith, c.from.ensures)) c.in_ok-admit.ensures.admitted.1))
    (found_place s g c.args.heap.now c.find.new.heap c.write.new.heap l xs c.args.number
    c.in-Some.place f.0 f.1 c.from-in-Some.result c.from-in-Some.ensures) (omega (arith, low)))

pub returns-in-None : goal.returns-in-None
returns-in-None c s g xs has r =
    let l = c.args.self.now in
    let f = subst (λ p. Finds s c.args.heap.now c.find.new.heap g l xs c.args.number p) c.in-None.is
    (c.in_ok-place.ensures.finds s g xs has r
    (walk_room g l xs r (c.from.result + 2) c.args.heap.now (omega (arith, c.from.ensures))
    c.in_ok-admit.ensures.admitted.1)) in
    not_acknowledged s g c.args.heap.now c.find.new.heap c.find.new.heap l xs c.args.number f.0 f.1
