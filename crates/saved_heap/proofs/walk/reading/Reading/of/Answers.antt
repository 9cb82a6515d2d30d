use Rattle.std.proofs.Common.{ap, map}
use Rattle.saved_heap.specs.heap_pictures.Pictures.{view}
use Rattle.saved_heap.specs.Walks.{state_of}
use Rattle.saved_heap.proofs.Pictured.{begun}
use Rattle.saved_heap.proofs.walk.reading.Reading.of.Goals as goal

pub invariant_of-result : goal.invariant_of-result
invariant_of-result c =
    begun c.in_ok-from.from c.in_ok-from.ensures.run.0 c.in_ok-from.ensures.run.1 (state_of c.in_ok-found.found) (state_of c.values.new.self) c.in_ok-seen.seen.items c.deref.result.now c.in_ok-registers.registers.items
    (map view c.in_ok-objects.objects.items) c.in_ok-found.ensures c.in_ok-seen.ensures c.deref.ensures.value c.in_ok-registers.ensures
    (ap (map view) c.in_ok-objects.ensures.items)
