use Rattle.heap_machine.proofs.Solids.{solid_other, solid_colour, solid_payload}
use Rattle.heap_machine.proofs.laws.what_keeps_solid.Goals as goal

pub returns : goal.returns
returns c = record { place = solid_other; colour = solid_colour; payload = solid_payload }
