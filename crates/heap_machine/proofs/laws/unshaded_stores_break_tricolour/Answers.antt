use Rattle.heap_machine.proofs.Tricolours.{store_breaks}
use Rattle.heap_machine.proofs.laws.unshaded_stores_break_tricolour.Goals as goal

pub returns : goal.returns
returns c = store_breaks
