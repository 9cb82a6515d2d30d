use Rattle.std.proofs.Common.{ap, arith, length}
use Rattle.rt_mail.proofs.mail_runs.SpawnedThreads.{begun_more}
use Rattle.rt_mail.proofs.mail_runs.spawned.begin_all.Goals as goal

pub loop-who-preserved : goal.loop-who-preserved
loop-who-preserved g c =
    let more = begun_more c.args.mail_board.now _ _ c.in-Some.who _ _ c.begin.result
    c.loop-who.invariant.0 c.loop-who.invariant.1 c.in-Some.ensures.steps.0 c.begin.ensures
    c.in_ok-push.ensures.items in (
      more.0,
      more.1,
      omega (
        arith,
        c.loop-who.invariant.2,
        ap length c.in-Some.ensures.steps.0,
        c.in_ok-push.ensures.len,
      ),
      omega (
        arith,
        c.loop-who.invariant.3,
        ap length c.in-Some.ensures.steps.0,
        c.in-Some.ensures.steps.1,
      ),
      tt,
      tt,
    )
