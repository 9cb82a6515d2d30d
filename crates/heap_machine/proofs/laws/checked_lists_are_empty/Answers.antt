use Rattle.heap_machine.proofs.Turnovers.{checked_empty}
use Rattle.heap_machine.proofs.laws.checked_lists_are_empty.Goals as goal

pub returns : goal.returns
returns c = checked_empty
