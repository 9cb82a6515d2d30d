use Rattle.std.proofs.Common.{ap, refl}
use Rattle.never_heap.specs.Graphs.{WideGraph}
use Rattle.test_kit.specs.declared.reference_runs.Happened.TheVariants as happened
use Rattle.test_kit.proofs.reference_runs.ReplayInRange.{can_go, has_gone}
use Rattle.test_kit.proofs.reference_runs.Legality.{legal_goes_on, legal_ends}
use Rattle.test_kit.proofs.reference_runs.replays.is_legal.Goals as goal

pub follow-requires : goal.follow-requires
follow-requires c =
    can_go c.args.c.now c.loop-happened.graph.graph c.args.h.now c.loop-happened.happened-index
    happened.Started c.loop-happened.invariant.graph c.loop-happened-test.true c.requires

pub loop-happened-preserved : goal.loop-happened-preserved
loop-happened-preserved c = record {
  graph = has_gone c.args.c.now c.loop-happened.graph c.follow.new.graph c.args.h.now
      c.loop-happened.happened-index happened.Started c.loop-happened.invariant.graph
      c.loop-happened-test.true c.in_ok-follow.ensures.after;
  legal = legal_goes_on c.args.c.now c.loop-happened.graph.graph c.args.h.now
      c.loop-happened.happened-index happened.Started c.loop-happened.invariant.legal
      c.follow.new.graph.graph c.loop-happened-test.true
      (c.in_ok-follow.ensures.answered.0 c.if-not-branch.false)
      (ap (λ (g : WideGraph). g.graph) c.in_ok-follow.ensures.after);
}

pub returns : goal.returns
returns c = (
  λ _. legal_ends c.args.c.now c.loop-happened.graph.graph c.args.h.now
      c.loop-happened.happened-index happened.Started c.loop-happened.invariant.legal
      c.loop-happened-test.false (c.begins_with_a_start.ensures.0 c.if-not-begins_with_a_start.false),
  λ _. refl,
)
