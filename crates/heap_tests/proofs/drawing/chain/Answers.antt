use Rattle.std.proofs.Common.{arith}
use Rattle.std.proofs.lemmas.List.Elements.{recursion_from_All}
use Rattle.never_heap.specs.Bounds.{IsCommandInBounds}
use Rattle.heap_tests.proofs.drawing.chain.Goals as goal

pub returns : goal.returns
returns c = record {
  few = omega arith;
  commands = recursion_from_All (IsCommandInBounds c.args.c.now) c.loop-place.trace.items
      c.loop-place.invariant.fit;
}
