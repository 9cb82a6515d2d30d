use Rattle.std.proofs.Common.{◌≡◌, ◌-◌, map}
use Rattle.saved_heap.specs.heap_pictures.Pictures.{view}
use Rattle.saved_heap.specs.heap_pictures.Reading.{items_at}
use Rattle.saved_heap.proofs.heap_pictures.Loop.{with_front}
use Rattle.saved_heap.proofs.heap_pictures.reading.items_of.Given as goal

abbrev pub invariant-loop : goal.invariant-loop
invariant-loop l = with_front (map view l.items.items) (items_at (l.count - l.counter) l.rest) ≡ items_at l.count l.bytes
