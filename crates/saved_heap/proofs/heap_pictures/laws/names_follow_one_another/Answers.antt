use Rattle.saved_heap.proofs.heap_pictures.OneUpToNames.{follow}
use Rattle.saved_heap.proofs.heap_pictures.laws.names_follow_one_another.Goals as goal

pub returns : goal.returns
returns _ = follow
