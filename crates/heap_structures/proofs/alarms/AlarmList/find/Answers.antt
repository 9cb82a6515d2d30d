use Rattle.std.proofs.Common.{◌+◌, ◌<◌, Ok, Err, length, map, slice_index_or, sym, ◌∙◌, arith}
use Rattle.std.proofs.lemmas.List.{length-map}
use Rattle.heap_structures.specs.Alarms.{value_of}
use Rattle.heap_structures.proofs.cell_arrays.Answered.{room_less}
use Rattle.heap_structures.proofs.alarm_lists.AlarmLists.{found_here, none, not_at_all, not_here, value_at}
use Rattle.heap_structures.proofs.alarm_lists.AlarmMoves.{loaded, shows_as}
use Rattle.heap_structures.proofs.alarms.AlarmList.find.Goals as goal

pub returns-in_err-value-clause-finds : goal.returns-in_err-value-clause-finds
returns-in_err-value-clause-finds c s g xs has r room =
    let l = c.args.self.now in
    absurd (loaded s g c.args.heap.now c.loop-place.heap c.get.new.heap l.cells l.count
    c.loop-place.place c.loop-place.place c.from.result (map value_of xs) c.from.ensures
    c.loop-place-test.true (room_less l.count (c.loop-place.place + 1) c.args.heap.now
    (omega (arith, c.loop-place-test.true)) room)
    (c.loop-place.invariant s g xs has r room).1 (Err c.in_err-value.field-0.0)
    (λ k ws. c.in_err-value.ensures s k ws))

pub returns-then-is_of-clause-finds : goal.returns-then-is_of-clause-finds
returns-then-is_of-clause-finds c s g xs has r room =
    let l = c.args.self.now in
    let inv = c.loop-place.invariant s g xs has r room in
    let by = loaded s g c.args.heap.now c.loop-place.heap c.get.new.heap l.cells l.count
    c.loop-place.place c.loop-place.place c.from.result (map value_of xs) c.from.ensures
    c.loop-place-test.true (room_less l.count (c.loop-place.place + 1) c.args.heap.now
    (omega (arith, c.loop-place-test.true)) room) inv.1 (Ok c.in_ok-value.value)
    (λ k ws. c.in_ok-value.ensures s k ws) in
    let low : c.loop-place.place < length xs =
    (let n = length-map xs value_of in omega (arith, n, r.counted, c.loop-place-test.true)) in (
      found_here c.args.number xs c.loop-place.place low inv.0
          (sym (c.is_of.ensures (slice_index_or xs c.loop-place.place none)
          (by.0 ∙ value_at xs c.loop-place.place low)) ∙ c.if-is_of.true),
      by.1,
    )

pub loop-place-preserved : goal.loop-place-preserved
loop-place-preserved c s g xs has r room =
    let l = c.args.self.now in
    let inv = c.loop-place.invariant s g xs has r room in
    let by = loaded s g c.args.heap.now c.loop-place.heap c.get.new.heap l.cells l.count
    c.loop-place.place c.loop-place.place c.from.result (map value_of xs) c.from.ensures
    c.loop-place-test.true (room_less l.count (c.loop-place.place + 1) c.args.heap.now
    (omega (arith, c.loop-place-test.true)) room) inv.1 (Ok c.in_ok-value.value)
    (λ k ws. c.in_ok-value.ensures s k ws) in
    let low : c.loop-place.place < length xs =
    (let n = length-map xs value_of in omega (arith, n, r.counted, c.loop-place-test.true)) in (
      not_here c.args.number xs c.loop-place.place low inv.0
          (sym (c.is_of.ensures (slice_index_or xs c.loop-place.place none)
          (by.0 ∙ value_at xs c.loop-place.place low)) ∙ c.if-is_of.false),
      by.1,
    )

pub returns-clause-finds : goal.returns-clause-finds
returns-clause-finds c s g xs has r room =
    let l = c.args.self.now in
    let inv = c.loop-place.invariant s g xs has r room in (
      not_at_all c.args.number xs c.loop-place.place
          (let n = length-map xs value_of in
          omega (arith, n, r.counted, c.loop-place-test.false)) inv.0,
      shows_as s c.loop-place.place l.count c.args.heap.now c.loop-place.heap l.cells g _ _
          (omega (arith, c.loop-place.auto.place-end)) inv.1 (λ is. is),
    )
