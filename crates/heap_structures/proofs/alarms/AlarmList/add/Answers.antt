use Rattle.std.proofs.Common.{refl, arith}
use Rattle.heap_structures.proofs.alarm_lists.AlarmCalls.{add_low, added}
use Rattle.heap_structures.proofs.alarms.AlarmList.add.Goals as goal

pub returns-in_err-write-clause-adds : goal.returns-in_err-write-clause-adds
returns-in_err-write-clause-adds c s g xs has r room free =
    let l = c.args.self.now in
    absurd (c.in_err-write.ensures s g r.array
    (record { has = has; cells = r.cells; room = room })
    (add_low s g c.args.heap.now c.write.new.heap l xs r c.args.number c.from.result c.from.ensures
    c.if-self.false) (omega (arith, c.requires)))

pub returns-clause-adds : goal.returns-clause-adds
returns-clause-adds c s g xs has r room free =
    let l = c.args.self.now in
    added s g c.args.heap.now c.write.new.heap l xs r c.args.number c.from.result c.from.ensures
    _ refl refl free c.if-self.false
    (c.in_ok-write.ensures s g r.array
    (record { has = has; cells = r.cells; room = room })
    (add_low s g c.args.heap.now c.write.new.heap l xs r c.args.number c.from.result c.from.ensures
    c.if-self.false) (omega (arith, c.requires)))
