-- What is made and what is left to be drawn are the whole trace.
use Rattle.std.proofs.Common.{◌≡◌, length}
use Rattle.std.specs.List.{AllByRecursion}
use Rattle.never_heap.specs.Bounds.{IsCommandInBounds}
use Rattle.rtheap_core.specs.Generated.{generated_config}
use Rattle.rtheap_core.proofs.DrawnTraces.{IsPart}
use Rattle.rtheap_core.proofs.generated.trace.Given as goal

abbrev pub invariant-loop-line : goal.invariant-loop-line
invariant-loop-line l = record {
  part : IsPart l.made.items l._line l.lines l.words l.fn.words;
  counted : length l.made.items ≡ l._line;
  bounds : AllByRecursion (IsCommandInBounds generated_config) l.made.items;
}
