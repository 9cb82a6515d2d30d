use Rattle.std.proofs.Common.{arith}
use Rattle.never_heap.specs.Bounds.{IsCommandInBounds}
use Rattle.rtheap_core.specs.Generated.{generated_config}
use Rattle.rtheap_core.proofs.DrawnTraces.{one_drawn, all_drawn, words_after, counted_more, all_more}
use Rattle.rtheap_core.proofs.generated.trace.Goals as goal

pub loop-line-preserved : goal.loop-line-preserved
loop-line-preserved c = record {
  part = one_drawn _ _ _ _ _ _ _ _ (omega arith) c.draw.ensures.command c.draw.ensures.words
      c.in_ok-push.ensures.items c.loop-line.invariant.part;
  counted = counted_more _ _ _ _ c.in_ok-push.ensures.items c.loop-line.invariant.counted;
  bounds = all_more (IsCommandInBounds generated_config) _ _ _ c.in_ok-push.ensures.items
      c.loop-line.invariant.bounds c.draw.ensures.bounds;
}

pub returns-clause-commands : goal.returns-clause-commands
returns-clause-commands c = all_drawn _ _ _ _ _ (omega arith) c.loop-line.invariant.part

pub returns-clause-words : goal.returns-clause-words
returns-clause-words c = words_after _ _ _ _ _ (omega arith) c.loop-line.invariant.part
