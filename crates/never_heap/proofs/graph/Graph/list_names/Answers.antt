use Rattle.std.proofs.Common.{arith}
use Rattle.never_heap.proofs.NameLists.{names_step}
use Rattle.never_heap.proofs.graph.Graph.list_names.Goals as goal

pub loop-thread-preserved : goal.loop-thread-preserved
loop-thread-preserved c = (
  names_step c.args.self.now.graph c.loop-thread.thread c.count-count.result
      c.index-mutators-thread.result c.mutators-mutators.result.now c.loop-thread.list.items
      c.push_names.new.list.items c.loop-thread-test.true c.index-mutators-thread.is
      c.mutators-mutators.ensures.mutators c.count-count.ensures.value c.loop-thread.invariant.0
      c.in_ok-push_names.ensures.names,
  omega (arith, c.in_ok-push_names.ensures.more),
)
