use Rattle.heap_machine.proofs.HeapRules.{heap_other, heap_colour, heap_payload}
use Rattle.heap_machine.proofs.laws.what_keeps_the_heap.Goals as goal

pub returns : goal.returns
returns c = record { place = heap_other; colour = heap_colour; payload = heap_payload }
