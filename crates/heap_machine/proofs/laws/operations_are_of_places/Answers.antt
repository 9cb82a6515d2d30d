use Rattle.heap_machine.proofs.HeapAfter.{heap_of-after, word_before, op_place_below, length-after}
use Rattle.heap_machine.proofs.laws.operations_are_of_places.Goals as goal

pub returns : goal.returns
returns c = record { after = heap_of-after; before = word_before; below = op_place_below; length = length-after }
