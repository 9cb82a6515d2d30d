use Rattle.std.proofs.Common.{◌≡◌, ℕ, ◌<◌, get_or, length}
use Rattle.std.specs.List.{AllByRecursion}
use Rattle.never_heap.specs.Graphs.{register_of}
use Rattle.never_heap.specs.Histories.{replay}
use Rattle.heap_system.specs.Machines.{Run}
use Rattle.control_heap.specs.Images.{HasRun}
use Rattle.control_heap.specs.Seen.{IsSeen, value_seen}
use Rattle.control_heap.specs.declared.control.seen.Seen.{Seen}
use Rattle.saved_heap.proofs.walk.registers_of.Given as goal

abbrev pub invariant-loop-r : goal.invariant-loop-r
invariant-loop-r l = record {
  long : length l.registers.items ≡ l.r;
  values : (r : Run) (q : ℕ) (d : Seen) → HasRun l.fn.from r → q < l.r
      → value_seen (get_or l.registers.items q d) ≡ register_of (replay l.fn.from.config r.order) 0 q;
  seen : (r : Run) → HasRun l.fn.from r → AllByRecursion (IsSeen r) l.registers.items;
}
