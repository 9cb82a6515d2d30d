use Rattle.std.proofs.Common.{arith, rules}
use Rattle.saved_heap.specs.Walks.{state_of}
use Rattle.saved_heap.proofs.Pictured.{walked_on}
use Rattle.saved_heap.proofs.walk.reading.read_more.Goals as goal

pub loop-more-preserved : goal.loop-more-preserved
loop-more-preserved c = record {
  long = search rules;
  walked = λ first before.
      walked_on c.args.from.now first (state_of c.loop-more.found) (state_of c.item_of.new.found) c.loop-more.objects.items
      c.push.new.self.items c.in_ok-item_of.field-0 c.len-next.result c.index-seen.result.now (omega (arith, c.len-next.ensures))
      (omega (arith, c.if-next-len.false, c.len.ensures)) c.index-seen.ensures c.in_ok-push.ensures.items (c.loop-more.invariant.walked first before) c.in_ok-item_of.ensures;
}
