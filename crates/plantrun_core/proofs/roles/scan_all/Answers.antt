use Rattle.std.proofs.Common.{◌∙◌, arith, subst}
use Rattle.plantrun_core.proofs.SameWorker.{same_then}
use Rattle.plantrun_core.specs.declared.alarms.Limits.{Limits}
use Rattle.plantrun_core.specs.Roles.{HasScanned}
use Rattle.plantrun_core.proofs.LogOfTicks.{scanned_more, scanned_to_length}
use Rattle.plantrun_core.proofs.roles.scan_all.Goals as goal

pub scan-requires-clause-room : goal.scan-requires-clause-room
scan-requires-clause-room g c =
    let so_far = scanned_to_length c.loop-alarm.alarm c.args.hand.now.calls.items
    c.loop-alarm.hand.calls.items c.loop-alarm.invariant.scanned in
    omega (
      arith,
      so_far,
      c.requires.room,
      c.loop-alarm.invariant.capacity,
      c.loop-alarm-test.true,
    )

pub scan-requires-clause-few : goal.scan-requires-clause-few
scan-requires-clause-few g c =
    let so_far = scanned_to_length c.loop-alarm.alarm c.args.hand.now.calls.items
    c.loop-alarm.hand.calls.items c.loop-alarm.invariant.scanned in
    omega (arith, so_far, c.requires.few, c.loop-alarm-test.true)

pub loop-alarm-preserved : goal.loop-alarm-preserved
loop-alarm-preserved g c =
    let i = c.loop-alarm.alarm in
    let old = c.args.hand.now in
    let mid = c.loop-alarm.hand in
    let new = c.scan.new.hand in
    record {
      own = c.scan.ensures.own;
      same = same_then old.who mid.who new.who c.loop-alarm.invariant.same c.scan.ensures.same;
      capacity = c.scan.ensures.capacity ∙ c.loop-alarm.invariant.capacity;
      scanned = scanned_more i old.calls.items mid.calls.items new.calls.items
          c.loop-alarm.invariant.scanned
          (subst (λ (l : Limits). HasScanned l i mid.calls.items new.calls.items) c.limits_of.ensures
          c.scan.ensures.did);
    }
