use Rattle.std.proofs.Common.{ap, arith}
use Rattle.never_heap.specs.LiveBlocks.{object_blocks}
use Rattle.saved_heap.specs.heap_pictures.Pictures.{view}
use Rattle.saved_heap.proofs.heap_pictures.Needed.{largest_more}
use Rattle.saved_heap.proofs.heap_pictures.needs.largest_of.Goals as goal

pub loop-item-preserved : goal.loop-item-preserved
loop-item-preserved c =
    let next = largest_more c.args.width c.args.items.now c.loop-item.item-index c.item-item.result c.loop-item-test.true in
    let same = ap (λ o. object_blocks c.args.width (view o)) c.item-item.is in
    omega (arith, next, c.larger-most.ensures, c.blocks_of.ensures, c.loop-item.invariant, same)
