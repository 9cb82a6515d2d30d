use Rattle.std.proofs.Common.{◌≤◌, ◌^◌, ◌+◌, arith, length, refl, subst, sym}
use Rattle.live_tables.specs.rows.Workers.{IsSameWorker}
use Rattle.plantrun_core.proofs.SameWorker.{same_then}
use Rattle.plantrun_core.specs.Logs.{HasGoneOn}
use Rattle.plantrun_core.specs.Roles.{closed}
use Rattle.plantrun_core.specs.Works.{most_in}
use Rattle.plantrun_core.proofs.LogOfTicks.{acted_after, tick_more, whole_few, whole_log, whole_short}
use Rattle.plantrun_core.proofs.WorkerLogs.{began_after, learned_hand, learned_same}
use Rattle.plantrun_core.proofs.work.acts_last.Goals as goal

pub control-requires-clause-own : goal.control-requires-clause-own
control-requires-clause-own g c =
    learned_hand c.args.table.now c.args.work.hand _ c.args.note.seen c.requires.own
    c.learn.ensures refl

pub control-requires-clause-few : goal.control-requires-clause-few
control-requires-clause-few g c =
    let few : length c.args.work.hand.calls.items + 32 ≤ 2 ^ 24 =
    whole_few c.args.count c.args.work closed c.requires.work c.requires.control
    c.requires.whole c.requires.count in
    omega (arith, few)

pub control-requires-clause-room : goal.control-requires-clause-room
control-requires-clause-room g c =
    let short : length c.args.work.hand.calls.items ≤ most_in closed c.args.count =
    whole_short c.args.count c.args.work closed c.requires.work c.requires.control
    c.requires.whole in
    omega (arith, short, c.requires.room)

pub returns-clause-same : goal.returns-clause-same
returns-clause-same g c =
    let w = c.args.work.hand.who in
    same_then w c.learn.new.who c.control.new.hand.who
    (subst (IsSameWorker w) (sym c.learn.ensures) (learned_same w c.args.note.seen))
    c.control.ensures.same

pub returns-clause-worked : goal.returns-clause-worked
returns-clause-worked g c =
    let w = c.args.work in
    tick_more c.args.count w c.in-Control.before c.control.result
    c.control.new.hand.calls.items c.in-Control.is
    (whole_log c.args.count w closed c.requires.work c.requires.control c.requires.whole)
    c.control.ensures.did

pub returns-clause-last : goal.returns-clause-last
returns-clause-last g c =
    let h = c.args.work.hand in
    let new = c.control.new.hand in
    let seen = c.args.note.seen in
    let same : IsSameWorker h.who new.who = same_then h.who c.learn.new.who new.who
    (subst (IsSameWorker h.who) (sym c.learn.ensures) (learned_same h.who seen))
    c.control.ensures.same in
    acted_after seen c.args.count c.in-Control.before c.control.result h.calls.items new
    c.control.ensures.did
    (began_after seen h.who new.who _ c.requires.own.log.operations same
    (subst (λ w. HasGoneOn w new.who) c.learn.ensures c.control.ensures.on))
