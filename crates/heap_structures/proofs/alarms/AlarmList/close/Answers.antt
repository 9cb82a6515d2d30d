use Rattle.std.proofs.Common.{◌+◌, ◌-◌, ◌*◌, ◌≤◌, Err, Ok, arith}
use Rattle.heap_structures.proofs.cell_arrays.Answered.{room_less}
use Rattle.heap_structures.proofs.alarm_lists.AlarmMoves.{closed, moved, size_over}
use Rattle.heap_structures.proofs.alarms.AlarmList.close.Goals as goal

pub returns-in_err-copy : goal.returns-in_err-copy
returns-in_err-copy c s g vs has r room =
    let l = c.args.self.now in
    let long = r.circle.long in
    let over = size_over g l.cells l.count vs r in
    absurd (moved s g c.args.heap.now c.loop-to.heap c.copy.new.heap l.cells c.args.place
    c.loop-to.to (c.from.result + 1) c.from-in-loop-to.result r.array c.from-in-loop-to.ensures
    (omega (arith, c.from.ensures)) c.loop-to.auto.to
    (omega (arith, long, over, c.loop-to-test.true))
    (room_less (2 * (l.count - c.args.place)) (2 * (c.loop-to.to - c.args.place) + 2)
    c.args.heap.now (omega (arith, c.loop-to-test.true, c.loop-to.auto.to)) room)
    (c.loop-to.invariant s g vs has r room) (Err c.in_err-copy.field-0.0)
    (λ k ws. c.in_err-copy.ensures s k ws))

pub loop-to-preserved : goal.loop-to-preserved
loop-to-preserved c s g vs has r room =
    let l = c.args.self.now in
    let long = r.circle.long in
    let over = size_over g l.cells l.count vs r in
    moved s g c.args.heap.now c.loop-to.heap c.copy.new.heap l.cells c.args.place
    c.loop-to.to (c.from.result + 1) c.from-in-loop-to.result r.array c.from-in-loop-to.ensures
    (omega (arith, c.from.ensures)) c.loop-to.auto.to
    (omega (arith, long, over, c.loop-to-test.true))
    (room_less (2 * (l.count - c.args.place)) (2 * (c.loop-to.to - c.args.place) + 2)
    c.args.heap.now (omega (arith, c.loop-to-test.true, c.loop-to.auto.to)) room)
    (c.loop-to.invariant s g vs has r room) (Ok tt)
    (λ k ws. c.in_ok-copy.ensures s k ws)

pub returns : goal.returns
returns c s g vs has r room =
    let l = c.args.self.now in
    let end : c.loop-to.to ≤ l.count - 1 =
    c.loop-to.auto.to-end (omega (arith, c.requires)) in
    closed s g c.args.heap.now c.loop-to.heap c.clear.new.heap l.cells l.count c.args.place
    c.loop-to.to c.from-2.result vs r
    (omega (arith, c.from-2.ensures, end, c.loop-to-test.false)) c.loop-to.auto.to
    (omega (arith, c.requires, end, c.loop-to-test.false)) room
    (c.loop-to.invariant s g vs has r room) c.clear.result (λ k ws. c.clear.ensures s k ws)
