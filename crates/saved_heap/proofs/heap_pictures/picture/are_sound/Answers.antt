use Rattle.std.proofs.Common.{length, map, refl, sym}
use Rattle.saved_heap.specs.heap_pictures.Pictures.{view}
use Rattle.saved_heap.proofs.heap_pictures.Lists.{length_map}
use Rattle.saved_heap.proofs.heap_pictures.Tested.{sound_by}
use Rattle.saved_heap.proofs.heap_pictures.picture.are_sound.Goals as goal

pub returns : goal.returns
returns c =
    sound_by (record { registers = c.args.registers.now; objects = map view c.args.objects.now }) c.args.registers.now c.args.objects.now (length c.args.objects.now) c.are_registers-right.result c.are_items-items.result c.are_both.result
    refl refl (sym (length_map view c.args.objects.now)) c.are_registers-right.ensures c.are_items-items.ensures c.are_both.ensures
