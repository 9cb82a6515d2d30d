use Rattle.std.proofs.Common.{◌≤◌, ◌-◌, List}
use Rattle.never_heap.specs.Graphs.{Graph}
use Rattle.heap_structures.specs.Heaps.{Sight}
use Rattle.heap_structures.specs.Pairs.{Pair}
use Rattle.heap_structures.specs.Tables.{IsStocked, digits}
use Rattle.heap_structures.proofs.tables.TableChains.{IsHalving}
use Rattle.heap_structures.proofs.cells.Cells.rank.Given as goal

abbrev pub invariant-loop-low : goal.invariant-loop-low
invariant-loop-low l = record {
  ordered : l.low ≤ l.high;
  within : l.high ≤ l.count;
  halving : (s : Sight) (g : Graph) (xs : List Pair)
      → IsStocked s (digits l.count) l.fn.heap l.self g l.count xs
      → IsHalving s l.fn.heap l.heap l.self g l.count l.key xs l.low l.high;
}

abbrev pub decreases-loop-low : goal.decreases-loop-low
decreases-loop-low l = l.high - l.low
