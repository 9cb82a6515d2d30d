use Rattle.std.proofs.Common.{◌+◌, ◌*◌, ◌-◌, ◌≤◌, ◌∷◌, List, [], length}
use Rattle.block_store.specs.declared.Value.{Value}
use Rattle.never_heap.specs.Graphs.{Graph}
use Rattle.heap_structures.specs.Heaps.{Does, Ready, Sight}
use Rattle.heap_structures.specs.Tables.{IsLowered}
use Rattle.heap_structures.proofs.cells.Cells.move_down.Given as goal

abbrev pub invariant-loop-place : goal.invariant-loop-place
invariant-loop-place l =
    (s : Sight) (g : Graph) (vs : List Value)
    → Ready s (2 * (l.end - l.first)) l.fn.heap l.self g vs → l.end + 2 ≤ length vs
    → l.first ≤ l.end
    → Does s (2 * (l.place - l.first)) l.fn.heap l.heap (l.self.spare ∷ []) l.self.array g
    (λ z. IsLowered z l.self l.first l.place vs)
