use Rattle.std.proofs.Common.{get_or}
use Rattle.block_store.specs.declared.Value.TheVariants.{Nil}
use Rattle.never_heap.proofs.MarkSpread.{spread_more, spread_other, spread_as, no_reference}
use Rattle.never_heap.proofs.marks.Marks.spread.Goals as goal
use Rattle.never_heap.proofs.marks.Marks.spread.Goals.{in-Ref, in_default}

pub loop-value-preserved : goal.loop-value-preserved
loop-value-preserved c = elim c.match-value.branch [
  | in-Ref w ↦ spread_as c.args.self.now _ c.match-value.self _ c.match-value.is_new _ w.self-is
      w.is_new-is
      (spread_more c.args.self.now c.loop-value.self w.mark-is_new.new.self c.loop-value.is_new
      c.args.values.now c.loop-value.value-index c.loop-value-test.true
      w.in-Ref.name w.mark-is_new.result c.loop-value.invariant w.in-Ref.is
      w.mark-is_new.ensures.marks w.mark-is_new.ensures.places w.mark-is_new.ensures.unchanged)
  | in_default w ↦ spread_as c.args.self.now _ c.match-value.self _ c.match-value.is_new _ w.self-is
      w.is_new-is
      (spread_other c.args.self.now c.loop-value.self c.loop-value.self c.loop-value.is_new
      c.args.values.now c.loop-value.value-index c.loop-value-test.true
      c.loop-value.invariant (λ a. no_reference a
      (get_or c.args.values.now c.loop-value.value-index Nil) w.in_default.not-Ref))
]
