use Rattle.std.proofs.Common.{◌≡◌, ◌+◌, length, map}
use Rattle.saved_heap.specs.heap_pictures.Pictures.{view}
use Rattle.saved_heap.specs.Walks.{State, Walks, state_of}
use Rattle.saved_heap.proofs.walk.reading.read_more.Given as goal

abbrev pub invariant-loop-more : goal.invariant-loop-more
invariant-loop-more l = record {
  long : length l.objects.items ≡ length l.fn.objects.items + l._more;
  walked : (first : State) → Walks l.fn.from first (state_of l.fn.found) (map view l.fn.objects.items)
      → Walks l.fn.from first (state_of l.found) (map view l.objects.items);
}
