use Rattle.heap_system.proofs.Lemmas.{stated}
use Rattle.control_heap.proofs.laws.commands_take_what_is_told.Goals as goal

pub returns-clause-stated : goal.returns-clause-stated
returns-clause-stated _ c rate k bounds plan = stated c k rate bounds plan
