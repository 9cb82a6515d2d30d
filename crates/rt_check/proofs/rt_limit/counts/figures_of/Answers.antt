use Rattle.std.proofs.Common.{◌<◌, length, get_or, sym, subst}
use Rattle.never_heap.specs.declared.Command.TheVariants.{New}
use Rattle.never_heap.specs.Graphs.{WideGraph, count_of}
use Rattle.rt_check.specs.declared.moves.Move.{Move}
use Rattle.rt_check.specs.rt_limit.Counting.{HasRoom}
use Rattle.rt_check.proofs.rt_limit.OrderLaws.{thread_there, count_low, room, next_graph, next_knows}
use Rattle.rt_check.proofs.rt_limit.counts.figures_of.Goals as goal

abbrev none : Move
none = record { thread = 0; command = New 0 0 }

pub apply-requires-clause-thread : goal.apply-requires-clause-thread
apply-requires-clause-thread c =
    subst (λ (g : WideGraph). (get_or c.args.moves.now c.loop-next.next-index none).thread
    < length g.graph.mutators) (sym c.loop-next.invariant.graph)
    (thread_there c.args.config.now c.args.moves.now c.loop-next.next-index none
    c.requires.config c.requires.moves c.requires.few c.loop-next-test.true)

pub apply-requires-clause-count : goal.apply-requires-clause-count
apply-requires-clause-count c =
    subst (λ (g : WideGraph). count_of g.graph
    (get_or c.args.moves.now c.loop-next.next-index none).thread < 131072)
    (sym c.loop-next.invariant.graph)
    (count_low c.args.config.now c.args.moves.now c.loop-next.next-index none
    c.requires.config c.requires.moves c.requires.few c.loop-next-test.true)

pub went-requires : goal.went-requires
went-requires c =
    subst (HasRoom c.loop-next.counter) (sym c.blocks-in-loop-next.ensures)
    (room c.args.config.now c.args.moves.now c.loop-next.next-index none
    c.requires.config c.requires.moves c.requires.few c.loop-next-test.true c.requires.short
    c.loop-next.counter c.loop-next.invariant.knows)

pub loop-next-preserved : goal.loop-next-preserved
loop-next-preserved c =
    let graph = next_graph c.args.config.now c.args.moves.now c.loop-next.next-index none
    c.requires.config c.requires.moves c.requires.few c.loop-next-test.true c.loop-next.graph
    c.apply.new.self c.loop-next.invariant.graph c.in_ok-apply.ensures.graph in
    record {
      graph = graph;
      knows = next_knows c.args.config.now c.args.moves.now c.loop-next.next-index none
          c.requires.config c.requires.moves c.requires.few c.loop-next-test.true
          c.apply.new.self c.loop-next.counter c.went.new.self c.blocks-in-loop-next.result graph
          c.blocks-in-loop-next.ensures c.loop-next.invariant.knows c.in_ok-went.ensures;
    }
