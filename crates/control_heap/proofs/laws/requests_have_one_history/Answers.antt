use Rattle.control_heap.proofs.Histories.{one_history}
use Rattle.control_heap.proofs.laws.requests_have_one_history.Goals as goal

pub returns : goal.returns
returns _ h z ks a r stands all = one_history ks a h z r stands all
