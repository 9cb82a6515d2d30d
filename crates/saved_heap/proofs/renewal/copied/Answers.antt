use Rattle.std.proofs.Common.{◌<◌, ◌∙◌, length, take, arith}
use Rattle.saved_heap.specs.heap_pictures.Plans.{graph_after}
use Rattle.saved_heap.proofs.Copied.{built_more, copy_keeps, leaves_more}
use Rattle.saved_heap.proofs.renewal.copied.Goals as goal

pub returns-in-Err-clause-leaves : goal.returns-in-Err-clause-leaves
returns-in-Err-clause-leaves c = λ g leaves.
    copy_keeps c.loop-done.heap c.next.new.heap _ c.in-Err.fault c.in-Err.ensures.stops
    (graph_after g (take c.loop-done.done c.args.commands.now)) (c.loop-done.invariant.leaves g leaves)

pub loop-done-preserved : goal.loop-done-preserved
loop-done-preserved c =
    let low : c.loop-done.done < length c.args.commands.now =
    omega (arith, c.loop-done-test.true, c.min-count.ensures) in
    record {
      config = c.next.ensures.config ∙ c.loop-done.invariant.config;
      few = omega (arith, c.next.ensures.one, c.loop-done.invariant.few);
      leaves = leaves_more c.args.heap.now c.loop-done.heap c.next.new.heap c.args.commands.now
          c.loop-done.done _ low c.loop-done.invariant.leaves c.in_default.ensures.leaves;
      built = built_more c.args.heap.now c.loop-done.heap c.next.new.heap c.args.commands.now
          c.loop-done.done _ low c.loop-done.invariant.built c.in_default.ensures.built;
    }
