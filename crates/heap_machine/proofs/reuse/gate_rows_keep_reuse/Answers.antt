use Rattle.heap_machine.proofs.GateReuse.{passing_keeps, changing_keeps}
use Rattle.heap_machine.proofs.reuse.gate_rows_keep_reuse.Goals as goal

pub returns : goal.returns
returns c = record { passes = passing_keeps; turns = changing_keeps }
