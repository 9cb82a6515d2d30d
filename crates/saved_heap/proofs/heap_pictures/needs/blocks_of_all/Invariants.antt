use Rattle.std.proofs.Common.{◌≡◌, ◌≤◌, ◌*◌, take}
use Rattle.std.specs.List.{sum_by}
use Rattle.never_heap.specs.LiveBlocks.{object_blocks}
use Rattle.saved_heap.specs.heap_pictures.Pictures.{view}
use Rattle.saved_heap.proofs.heap_pictures.needs.blocks_of_all.Given as goal

abbrev pub invariant-loop-item : goal.invariant-loop-item
invariant-loop-item l = record {
  value : l.total ≡ sum_by (λ o. object_blocks l.width (view o)) (take l.item-index l.items);
  few : l.total ≤ l.item-index * 4294967295;
}
