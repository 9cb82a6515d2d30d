use Rattle.std.proofs.Common.{◌+◌, ◌*◌, ◌-◌, ◌≤◌, ◌∷◌, List, [], length}
use Rattle.block_store.specs.declared.Value.{Value}
use Rattle.never_heap.specs.Graphs.{Graph}
use Rattle.heap_structures.specs.Heaps.{Does, Ready, Sight}
use Rattle.heap_structures.specs.Tables.{IsRaised}
use Rattle.heap_structures.proofs.cells.Cells.move_up.Given as goal

abbrev pub invariant-loop-place : goal.invariant-loop-place
invariant-loop-place l = record {
  low : l.first ≤ l.end → l.first ≤ l.place;
  raised : (s : Sight) (g : Graph) (vs : List Value)
      → Ready s (2 * (l.end - l.first)) l.fn.heap l.self g vs → l.end + 2 ≤ length vs
      → l.first ≤ l.end
      → Does s (2 * (l.end - l.place)) l.fn.heap l.heap (l.self.spare ∷ []) l.self.array g
      (λ z. IsRaised z l.self l.place l.end vs);
}
