use Rattle.control_heap_c.proofs.ReadBack.{requests}
use Rattle.control_heap_c.proofs.laws.calls_are_requests.Goals as goal

pub returns : goal.returns
returns _ h z ks ys all = requests h z ks ys all
