use Rattle.std.proofs.Common.{◌+◌, ap, sym, ◌∙◌, arith}
use Rattle.never_heap.proofs.NameLists.{count_step}
use Rattle.never_heap.proofs.graph.Graph.count_names.Goals as goal

pub loop-mutator-preserved : goal.loop-mutator-preserved
loop-mutator-preserved c = (
  ap (λ k. k + c.count.result) c.loop-mutator.invariant.0
      ∙ sym (count_step c.args.self.now.graph c.loop-mutator.mutator-index c.count.result
      c.mutator-item.result c.mutators-mutator-items.result.now c.loop-mutator-test.true
      c.mutator-item.is
      c.mutators-mutator-items.ensures.mutators c.count.ensures.value),
  omega (arith, c.count.ensures.few, c.loop-mutator.invariant.1),
)
