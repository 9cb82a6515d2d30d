use Rattle.std.proofs.Common.{◌+◌, subst, arith}
use Rattle.heap_structures.specs.Alarms.{Finds}
use Rattle.heap_structures.proofs.cell_arrays.Answered.{room_less}
use Rattle.heap_structures.proofs.alarm_lists.AlarmCalls.{add_room, raises, still_stands, walk_room}
use Rattle.heap_structures.proofs.alarms.AlarmList.raise.Goals as goal

pub returns-in_err-find-clause-shows : goal.returns-in_err-find-clause-shows
returns-in_err-find-clause-shows c s g xs has r =
    absurd (c.in_err-find.ensures.finds s g xs has r
    (walk_room g c.args.self.now xs r (c.from.result + 2) c.args.heap.now
    (omega (arith, c.from.ensures)) c.in_ok-admit.ensures.admitted.1))

pub returns-in-Some-clause-shows : goal.returns-in-Some-clause-shows
returns-in-Some-clause-shows c s g xs has r =
    let l = c.args.self.now in
    let f = subst (λ p. Finds s c.args.heap.now c.find.new.heap g l xs c.args.number p) c.in-Some.is
    (c.in_ok-find.ensures.finds s g xs has r
    (walk_room g l xs r (c.from.result + 2) c.args.heap.now (omega (arith, c.from.ensures))
    c.in_ok-admit.ensures.admitted.1)) in
    still_stands s g c.args.heap.now c.find.new.heap c.find.new.heap l xs c.args.number
    c.in-Some.field-0 f.0 f.1

pub returns-in-None-clause-shows : goal.returns-in-None-clause-shows
returns-in-None-clause-shows c s g xs has r =
    let l = c.args.self.now in
    let f = subst (λ p. Finds s c.args.heap.now c.find.new.heap g l xs c.args.number p) c.in-None.is
    (c.in_ok-find.ensures.finds s g xs has r
    (walk_room g l xs r (c.from.result + 2) c.args.heap.now (omega (arith, c.from.ensures))
    c.in_ok-admit.ensures.admitted.1)) in
    raises s g c.args.heap.now c.find.new.heap c.add.new.heap l xs c.args.number f.0 f.1 _ _
    c.add.new.self c.add.result
    (c.add.ensures.adds s f.1.graph xs f.1.has f.1.holds
    (add_room s g c.args.heap.now c.find.new.heap c.add.new.heap l xs c.args.number f.0 f.1
    (room_less (c.from.result + 2) (l.cells.size + 2) c.args.heap.now
    (omega (arith, c.from.ensures)) c.in_ok-admit.ensures.admitted.1)) f.0)
