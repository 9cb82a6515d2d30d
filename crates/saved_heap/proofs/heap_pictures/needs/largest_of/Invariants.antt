use Rattle.std.proofs.Common.{◌≡◌, map, take}
use Rattle.saved_heap.specs.heap_pictures.Needs.{largest}
use Rattle.saved_heap.specs.heap_pictures.Pictures.{view}
use Rattle.saved_heap.proofs.heap_pictures.needs.largest_of.Given as goal

abbrev pub invariant-loop-item : goal.invariant-loop-item
invariant-loop-item l = l.most ≡ largest l.width (map view (take l.item-index l.items))
