-- None of the alarms before the place has the number.
use Rattle.std.proofs.Common.{◌≡◌, false, List, take}
use Rattle.never_heap.specs.Graphs.{Graph}
use Rattle.heap_structures.specs.declared.alarms.Alarm.{Alarm}
use Rattle.heap_structures.specs.Alarms.{IsAlarms, Shows, stands}
use Rattle.heap_structures.specs.Heaps.{Has, HasRoom, Sight}
use Rattle.heap_structures.proofs.alarms.AlarmList.find.Given as goal

abbrev pub invariant-loop-place : goal.invariant-loop-place
invariant-loop-place l = (s : Sight) (g : Graph) (xs : List Alarm)
    → Has s l.fn.heap g → IsAlarms g l.self xs → HasRoom l.self.count l.fn.heap
    → (stands l.number (take l.place xs) ≡ false)
    × Shows s l.place l.fn.heap l.heap l.self.cells g (λ z. IsAlarms z l.self xs)
