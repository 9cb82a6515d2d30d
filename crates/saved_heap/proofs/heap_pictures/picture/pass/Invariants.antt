use Rattle.std.proofs.Common.{◌≡◌, take, true}
use Rattle.std.specs.List.{list_all}
use Rattle.saved_heap.specs.heap_pictures.Pictures.{is_item, view}
use Rattle.saved_heap.proofs.heap_pictures.picture.pass.Given as goal

abbrev pub invariant-loop-item : goal.invariant-loop-item
invariant-loop-item l = list_all (λ o. is_item l.count (view o)) (take l.item-index l.items) ≡ true
