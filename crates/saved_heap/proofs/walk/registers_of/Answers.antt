use Rattle.std.proofs.Common.{rules}
use Rattle.saved_heap.proofs.Pictured.{registers_on, seen_on}
use Rattle.saved_heap.proofs.walk.registers_of.Goals as goal

pub loop-r-preserved : goal.loop-r-preserved
loop-r-preserved c = record {
  long = search rules;
  values =
      registers_on c.args.from.now c.loop-r.registers.items c.push.new.self.items c.seen.result c.loop-r.r c.loop-r.invariant.long
      c.in_ok-push.ensures.items c.loop-r.invariant.values c.seen.ensures.value;
  seen =
      seen_on c.args.from.now c.loop-r.registers.items c.push.new.self.items c.seen.result c.in_ok-push.ensures.items c.loop-r.invariant.seen
      c.seen.ensures.block;
}
