use Rattle.std.proofs.Common.{◌∙◌}
use Rattle.trace_text.proofs.AppendedTexts.{at_err}
use Rattle.trace_text.proofs.InOrder.{rest_from, line_written, line_failed}
use Rattle.trace_text.proofs.order_writer.write_items.Goals as goal

pub returns-in_err-put-clause-prefix : goal.returns-in_err-put-clause-prefix
returns-in_err-put-clause-prefix g c =
    at_err c.from_residual.result
    (line_failed _ _ _ _ _ _ _ _ (rest_from c.args.order.now c.loop-item.item-index _
    c.loop-item-test.true) c.loop-item.invariant.under_way _ _ _ c.bytes.ensures
    c.fill_next.ensures.text c.in_err-put.ensures.prefix)

pub loop-item-preserved : goal.loop-item-preserved
loop-item-preserved g c = record {
  under_way = line_written _ _ _ _ _ _ _ _ (rest_from c.args.order.now c.loop-item.item-index _
      c.loop-item-test.true) c.loop-item.invariant.under_way _ _ _ _ _ c.fill_next.ensures.told
      c.fill_next.ensures.starts c.bytes.ensures c.fill_next.ensures.text
      c.in_ok-put.ensures.appended;
  still = c.in_ok-put.ensures.still ∙ c.loop-item.invariant.still;
}
