use Rattle.std.proofs.Common.{arith}
use Rattle.never_heap.specs.Jobs.{IsTraceInBounds}
use Rattle.rtheap_core.specs.Generated.{generated_config}
use Rattle.rtheap_core.proofs.DrawnTraces.{one_traced, all_traced, counted_more, all_more, pushed_items}
use Rattle.rtheap_core.proofs.generated.traces.Goals as goal

pub loop-thread-preserved : goal.loop-thread-preserved
loop-thread-preserved c = record {
  part = one_traced _ _ _ _ _ _ _ _ _ (omega arith) c.in_ok-trace.ensures.commands
      c.in_ok-trace.ensures.words (pushed_items _ _ _ c.in_ok-push.ensures.items)
      c.loop-thread.invariant.part;
  counted = counted_more _ _ _ _ c.in_ok-push.ensures.items c.loop-thread.invariant.counted;
  bounds = all_more (IsTraceInBounds generated_config) _ _ _
      (pushed_items _ _ _ c.in_ok-push.ensures.items)
      c.loop-thread.invariant.bounds c.in_ok-trace.ensures.bounds;
}

pub returns-clause-traces : goal.returns-clause-traces
returns-clause-traces c = all_traced _ _ _ _ _ _ (omega arith) c.loop-thread.invariant.part
