use Rattle.saved_heap.proofs.heap_pictures.OneUpToNames.{pictures_built}
use Rattle.saved_heap.proofs.heap_pictures.laws.pictures_are_built.Goals as goal

pub returns : goal.returns
returns _ = pictures_built
