use Rattle.heap_machine.proofs.GateRows.{gate_fits, gate_at, gate_place, gate_sum, gate_stores}
use Rattle.heap_machine.proofs.laws.gate_rows_stay_in_the_heap.Goals as goal

pub returns : goal.returns
returns c = record { next = gate_fits; threads = gate_at; place = gate_place; sum = gate_sum; stores = gate_stores }
