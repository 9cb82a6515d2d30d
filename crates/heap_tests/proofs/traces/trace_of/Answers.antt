use Rattle.std.proofs.lemmas.List.Elements.{recursion_from_All}
use Rattle.never_heap.specs.Bounds.{IsCommandInBounds}
use Rattle.heap_tests.proofs.traces.trace_of.Goals as goal

pub returns : goal.returns
returns c = record { few = c.loop-times.invariant.0; commands = recursion_from_All (IsCommandInBounds c.args.c.now) c.loop-times.trace.items c.loop-times.invariant.1 }
