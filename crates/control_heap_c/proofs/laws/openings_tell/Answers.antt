use Rattle.control_heap_c.proofs.ReadBack.{opened, opened_not, one_thread, enough}
use Rattle.control_heap_c.proofs.laws.openings_tell.Goals as goal

pub returns : goal.returns
returns c = record { opened = opened; refused = opened_not; one_thread = one_thread; enough = enough }
