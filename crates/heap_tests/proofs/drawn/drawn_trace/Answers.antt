use Rattle.std.proofs.lemmas.List.Elements.{recursion_from_All}
use Rattle.never_heap.specs.Bounds.{IsCommandInBounds}
use Rattle.heap_tests.proofs.drawn.drawn_trace.Goals as goal

pub returns : goal.returns
returns c = record {
  few = c.loop-place.invariant.0;
  commands = recursion_from_All (IsCommandInBounds c.args.c.now) c.loop-place.trace.items c.loop-place.invariant.1;
}
