use Rattle.std.proofs.Common.{◌∙◌, ap}
use Rattle.never_heap.specs.Graphs.{WideGraph}
use Rattle.test_kit.specs.declared.reference_runs.Happened.TheVariants as happened
use Rattle.test_kit.proofs.reference_runs.ReplayInRange.{can_go, has_gone}
use Rattle.test_kit.proofs.reference_runs.replays.graph_after.Goals as goal

pub follow-requires : goal.follow-requires
follow-requires c =
    can_go c.args.c.now c.loop-happened.graph.graph c.args.h.now c.loop-happened.happened-index
    happened.Started c.loop-happened.invariant.graph c.loop-happened-test.true c.requires

pub loop-happened-preserved : goal.loop-happened-preserved
loop-happened-preserved c = record {
  width = ap (λ (g : WideGraph). g.width) c.in_ok-follow.ensures.after
      ∙ c.loop-happened.invariant.width;
  graph = has_gone c.args.c.now c.loop-happened.graph c.follow.new.graph c.args.h.now
      c.loop-happened.happened-index happened.Started c.loop-happened.invariant.graph
      c.loop-happened-test.true c.in_ok-follow.ensures.after;
}
