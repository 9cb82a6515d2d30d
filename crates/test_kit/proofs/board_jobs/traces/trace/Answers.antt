use Rattle.std.proofs.lemmas.List.Elements.{recursion_from_All}
use Rattle.std.proofs.Common.{arith}
use Rattle.never_heap.specs.Bounds.{IsCommandInBounds}
use Rattle.test_kit.proofs.board_jobs.traces.trace.Goals as goal

pub returns : goal.returns
returns g c = record {
  few = omega (arith, c.loop-number.invariant.0, c.requires);
  commands = recursion_from_All (IsCommandInBounds c.args.c.now) c.loop-number.trace.items c.loop-number.invariant.1;
}
