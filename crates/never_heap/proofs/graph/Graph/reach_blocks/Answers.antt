use Rattle.std.proofs.Common.{◌∙◌}
use Rattle.never_heap.proofs.Sums.{live_of_marked}
use Rattle.never_heap.proofs.graph.Graph.reach_blocks.Goals as goal

pub returns : goal.returns
returns c =
    live_of_marked c.args.self.now.width c.args.self.now.graph c.in_ok-marks.marks
    c.deref-name-items.result.now c.loop-name.name-index c.loop-name.blocks
    (c.deref-name-items.ensures.value
    ∙ c.in_ok-list.ensures.names) c.loop-name-test.false c.in_ok-marks.ensures
    c.loop-name.invariant.0
