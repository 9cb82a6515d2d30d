use Rattle.std.proofs.Common.{map, ◌∙◌}
use Rattle.saved_heap.specs.heap_pictures.Pictures.{is_sound, view}
use Rattle.saved_heap.proofs.heap_pictures.picture.Picture.is_sound.Goals as goal

pub returns : goal.returns
returns c = c.are_sound.ensures ∙ (λ i. is_sound (record { registers = c.deref.ensures.value i; objects = map view (c.deref-2.ensures.value i) }))
