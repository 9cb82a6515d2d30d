use Rattle.rt_check.specs.rt_limit.NeedTexts.{rates}
use Rattle.rt_check.proofs.rt_limit.TextLaws.{has_more, last_at}
use Rattle.std.proofs.Common.{sym}
use Rattle.rt_check.proofs.rt_limit.texts.add_rows.Goals as goal

pub loop-rate-preserved : goal.loop-rate-preserved
loop-rate-preserved c = record {
  rows = has_more c.args.config.now c.args.live c.loop-rate.before rates c.loop-rate.rate-index
      c.args.text.now.items c.loop-rate.text.items c.add_row.new.text.items c.loop-rate-test.true
      c.loop-rate.invariant.last c.loop-rate.invariant.rows c.in_ok-add_row.ensures;
  last = sym (last_at rates c.loop-rate.rate-index c.loop-rate-test.true);
}
