use Rattle.saved_heap.proofs.heap_pictures.LiveUpToNames.{live_stays}
use Rattle.saved_heap.proofs.heap_pictures.command_laws.names_take_no_blocks.Goals as goal

pub returns : goal.returns
returns c = λ w g z lone also one. live_stays g z lone also one w
