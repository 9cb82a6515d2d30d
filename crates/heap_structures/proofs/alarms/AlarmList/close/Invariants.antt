-- The values after the place have moved up as far as this one.
use Rattle.std.proofs.Common.{◌-◌, ◌*◌, List}
use Rattle.block_store.specs.declared.Value.{Value}
use Rattle.never_heap.specs.Graphs.{Graph}
use Rattle.heap_structures.specs.Alarms.{Shows}
use Rattle.heap_structures.specs.Heaps.{Has, HasRoom, Sight}
use Rattle.heap_structures.specs.Rings.{IsRound}
use Rattle.heap_structures.proofs.alarm_lists.AlarmMoves.{IsMoved}
use Rattle.heap_structures.proofs.alarms.AlarmList.close.Given as goal

abbrev pub invariant-loop-to : goal.invariant-loop-to
invariant-loop-to l = (s : Sight) (g : Graph) (vs : List Value)
    → Has s l.fn.heap g → (r : IsRound g l.self.cells 0 l.self.count vs)
    → HasRoom (2 * (l.self.count - l.place)) l.fn.heap
    → Shows s (2 * (l.to - l.place)) l.fn.heap l.heap l.self.cells g
    (λ z. IsMoved z l.self.cells l.place l.to r.array)
