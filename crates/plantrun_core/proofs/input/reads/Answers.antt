use Rattle.std.proofs.Common.{◌≡◌, ◌∙◌, ◌+◌, ◌++◌, ◌<◌, [], ◌∷◌, sym, refl, subst, ap, arith, map, IfSome, Ok, Some}
use Rattle.std.specs.Vec.{vec_capacity}
use Rattle.live_tables.specs.rows.Workers.{IsSameWorker}
use Rattle.plantrun_core.proofs.SameWorker.{same_first, same_then}
use Rattle.plantrun_core.specs.Logs.{operation_of}
use Rattle.plantrun_core.specs.Readings.{IsNext, puts}
use Rattle.plantrun_core.proofs.Lines.{input_many, read_first, read_length, read_on}
use Rattle.plantrun_core.proofs.input.reads.Goals as goal

pub loop-taken-init : goal.loop-taken-init
loop-taken-init g c = record {
  own = c.requires.own;
  same = same_first c.args.hand.now.who;
  capacity = refl;
  read = read_first c.args.ticks.count (g.S.Source.left c.args.source.now)
      c.args.hand.now.calls.items c.requires.fresh;
  faults = refl;
}

pub put-requires-clause-few : goal.put-requires-clause-few
put-requires-clause-few g c =
    let n = read_length c.args.ticks.count c.loop-taken.taken (g.S.Source.left c.args.source.now)
    (g.S.Source.left c.loop-taken.source) c.loop-taken.hand.calls.items
    c.loop-taken.invariant.read in
    omega (arith, n, c.requires.count, c.loop-taken-test.true)

pub put-requires-clause-room : goal.put-requires-clause-room
put-requires-clause-room g c =
    let n = read_length c.args.ticks.count c.loop-taken.taken (g.S.Source.left c.args.source.now)
    (g.S.Source.left c.loop-taken.source) c.loop-taken.hand.calls.items
    c.loop-taken.invariant.read in
    omega (
      arith,
      n,
      c.requires.room,
      c.loop-taken.invariant.capacity,
      c.loop-taken-test.true,
    )

pub loop-taken-preserved : goal.loop-taken-preserved
loop-taken-preserved g c =
    let n = c.loop-taken.taken in
    let r = c.in-Ok-Some.reading in
    let old = c.args.hand.now in
    let mid = c.loop-taken.hand in
    let put = c.put.new.hand in
    let new = c.counts.new.self in
    let all = g.S.Source.left c.args.source.now in
    let left = g.S.Source.left c.loop-taken.source in
    let later = g.S.Source.left c.next_reading.new.source in
    let next : IfSome left (λ bytes. IsNext c.args.ticks.count bytes later (n + 1) (Ok (Some r))) =
    rw c.in-Ok-Some.field-0-is at c.in-Ok-Some.ensures.next in
    let low : r.tag < 9 = rw c.in-Ok-Some.field-0-is at c.in-Ok-Some.ensures.tag in
    let did : map operation_of put.calls.items
    ≡ map operation_of mid.calls.items ++ puts (n + 1) (r ∷ []) = c.put.ensures.did in
    record {
      own = c.counts.ensures.own c.args.table.now c.put.ensures.own;
      same = same_then old.who mid.who new.who c.loop-taken.invariant.same
          (same_then mid.who put.who new.who c.put.ensures.same
          (subst (λ w. IsSameWorker put.who w) (sym c.counts.ensures.who) (same_first put.who)));
      capacity = ap (λ v. vec_capacity v) c.counts.ensures.calls ∙ c.put.ensures.capacity
          ∙ c.loop-taken.invariant.capacity;
      read = read_on c.args.ticks.count n all left later (map operation_of mid.calls.items)
          (map operation_of new.calls.items) r c.loop-taken.invariant.read next low
          (ap (λ v. map operation_of v.items) c.counts.ensures.calls ∙ did);
      faults = c.in-Ok-Some.ensures.counted ∙ c.loop-taken.invariant.faults;
    }

pub returns-in-Ok-Some-next_reading-clause-input : goal.returns-in-Ok-Some-next_reading-clause-input
returns-in-Ok-Some-next_reading-clause-input g c =
    let all = g.S.Source.left c.args.source.now in
    let left = g.S.Source.left c.loop-taken.source in
    let later = g.S.Source.left c.next_reading-2.new.source in
    let n = c.loop-taken.taken in
    let r = c.in-Ok-Some-next_reading.field-0-0 in
    let next : IfSome left (λ bytes. IsNext c.args.ticks.count bytes later (n + 1) (Ok (Some r))) =
    rw c.in-Ok-Some-next_reading.field-0-is at c.in-Ok-Some-next_reading.ensures.next in
    input_many c.args.ticks.count n all left later c.loop-taken.hand r
    (omega (arith, c.loop-taken-test.false, c.loop-taken.auto.taken-end))
    c.loop-taken.invariant.read next
