use Rattle.heap_machine.proofs.Held.{held_put, held_after}
use Rattle.heap_machine.proofs.laws.stores_are_held.Goals as goal

pub returns : goal.returns
returns c = record { write = held_put; operation = held_after }
