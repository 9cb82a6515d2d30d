use Rattle.std.proofs.Common.{◌≡◌, take, true}
use Rattle.saved_heap.specs.heap_pictures.Pictures.{are_within}
use Rattle.saved_heap.proofs.heap_pictures.picture.are_within.Given as goal

abbrev pub invariant-loop-value : goal.invariant-loop-value
invariant-loop-value l = are_within l.count (take l.value-index l.values) ≡ true
