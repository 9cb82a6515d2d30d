use Rattle.std.proofs.Common.{◌≡◌, ◌≤◌, ◌+◌, take}
use Rattle.never_heap.specs.Graphs.{Graph}
use Rattle.saved_heap.specs.heap_pictures.Plans.{graph_after}
use Rattle.control_heap.specs.Controls.{asked}
use Rattle.control_heap.specs.graph_view.ShownGraph.{Leaves}
use Rattle.saved_heap.specs.Renewals.{HasBuilt}
use Rattle.saved_heap.proofs.renewal.copied.Given as goal

abbrev pub invariant-loop-done : goal.invariant-loop-done
invariant-loop-done l = record {
  config : l.heap.config ≡ l.fn.heap.config;
  few : asked l.heap ≤ asked l.fn.heap + l.done;
  leaves : (g : Graph) → Leaves l.fn.heap g → Leaves l.heap (graph_after g (take l.done l.commands));
  built : HasBuilt l.fn.heap (take l.done l.commands) l.heap;
}
