use Rattle.std.proofs.Common.{◌≡◌, ◌++◌, length, map, take}
use Rattle.std.specs.List.{flat_map}
use Rattle.saved_heap.specs.heap_pictures.Pictures.{view}
use Rattle.saved_heap.specs.heap_pictures.Spelling.{item_bytes, number, values_bytes}
use Rattle.saved_heap.proofs.heap_pictures.writing.body_of.Given as goal

abbrev pub invariant-loop-item : goal.invariant-loop-item
invariant-loop-item l = l.out.items ≡ values_bytes l.picture.registers.items ++ number (length l.picture.objects.items) ++ flat_map item_bytes (map view (take l.item-index l.picture.objects.items))
