use Rattle.std.proofs.Common.{◌<◌, Ok, Err, length, map, slice_index_or, sym, ◌∙◌, arith}
use Rattle.std.proofs.lemmas.List.{length-map}
use Rattle.heap_structures.specs.Alarms.{IsAlarms, value_of}
use Rattle.heap_structures.proofs.alarm_lists.AlarmLists.{alarm_past, alarm_there, none, value_at}
use Rattle.heap_structures.proofs.alarm_lists.AlarmMoves.{loaded, shows_as}
use Rattle.heap_structures.proofs.rings.Rounds.{does_none}
use Rattle.heap_structures.proofs.alarms.AlarmList.get.Goals as goal

pub returns-then-i-self : goal.returns-then-i-self
returns-then-i-self c s g xs has r =
    let l = c.args.self.now in
    does_none s 1 c.args.heap.now _ l.cells.array g _ has (
      sym (alarm_past xs c.args.i
          (let n = length-map xs value_of in omega (arith, n, r.counted, c.if-i-self.true))),
      r,
    )

pub returns-in_err-value : goal.returns-in_err-value
returns-in_err-value c s g xs has r =
    let l = c.args.self.now in
    absurd (loaded s g c.args.heap.now c.args.heap.now c.get.new.heap l.cells l.count 0 c.args.i
    c.from.result (map value_of xs) c.from.ensures c.if-i-self.false
    c.in_ok-admit.ensures.admitted.1
    (does_none s 0 c.args.heap.now _ l.cells.array g (λ z. IsAlarms z l xs) has r)
    (Err c.in_err-value.field-0.0) (λ k ws. c.in_err-value.ensures s k ws))

pub returns : goal.returns
returns c s g xs has r =
    let l = c.args.self.now in
    let by = loaded s g c.args.heap.now c.args.heap.now c.get.new.heap l.cells l.count 0 c.args.i
    c.from.result (map value_of xs) c.from.ensures c.if-i-self.false
    c.in_ok-admit.ensures.admitted.1
    (does_none s 0 c.args.heap.now _ l.cells.array g (λ z. IsAlarms z l xs) has r)
    (Ok c.in_ok-value.value) (λ k ws. c.in_ok-value.ensures s k ws) in
    let low : c.args.i < length xs =
    (let n = length-map xs value_of in omega (arith, n, r.counted, c.if-i-self.false)) in
    shows_as s 1 1 c.args.heap.now c.get.new.heap l.cells g (λ z. IsAlarms z l xs) _ (omega arith)
    by.1
    (λ is. (
      c.alarm_of.ensures (slice_index_or xs c.args.i none) (by.0 ∙ value_at xs c.args.i low)
          ∙ sym (alarm_there xs c.args.i low),
      is,
    ))
