use Rattle.std.proofs.Common.{subst, arith}
use Rattle.trace_text.specs.Lines.{lines_of}
use Rattle.rt_check.specs.declared.follower.Verdict.{Verdict}
use Rattle.rt_check.specs.Standing.{Says}
use Rattle.rt_check.proofs.VerdictSoFar.{lead_more}
use Rattle.rt_check.proofs.lines.first_bad.Goals as goal

pub loop-line-preserved : goal.loop-line-preserved
loop-line-preserved c =
    let config = c.args.job.now.config in
    let traces = c.args.job.now.traces in
    let led = c.loop-line.invariant.led in
    let said = c.in_ok-next.ensures led.0 led.1 in
    let good = subst (λ
    (v : Verdict). Says config c.args.rate traces led.0 c.in-Some.line.now v c.next.new.self)
    c.in-Good.is said in
    record {
      room = omega (arith, c.loop-line.invariant.room, c.in-Some.ensures.shorter);
      led = (
        _,
        good.2,
        lead_more config c.args.rate traces (lines_of c.args.order.now) led.0
            (lines_of c.loop-line.rest.now) c.loop-line.read led.2 c.in-Some.line.now
            (lines_of c.in-Some.after.now)
            c.in-Some.ensures.bytes good.0 good.1,
      );
    }
