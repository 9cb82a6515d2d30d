use Rattle.std.proofs.Common.{◌∙◌, sym}
use Rattle.saved_heap.proofs.heap_pictures.Tested.{items_tested}
use Rattle.saved_heap.proofs.heap_pictures.picture.are_items.Goals as goal

pub returns : goal.returns
returns c = c.pass.ensures ∙ sym (items_tested c.args.count c.args.items.now)
