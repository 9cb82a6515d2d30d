use Rattle.std.proofs.Common.{◌≡◌, ◌-◌}
use Rattle.saved_heap.specs.heap_pictures.Reading.{some_values_at}
use Rattle.saved_heap.proofs.heap_pictures.Loop.{with_front}
use Rattle.saved_heap.proofs.heap_pictures.reading.some_values.Given as goal

abbrev pub invariant-loop : goal.invariant-loop
invariant-loop l = with_front l.values.items (some_values_at (l.count - l.counter) l.rest) ≡ some_values_at l.count l.bytes
