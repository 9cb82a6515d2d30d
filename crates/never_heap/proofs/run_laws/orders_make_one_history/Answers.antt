use Rattle.never_heap.proofs.OneHistory.{one_of}
use Rattle.never_heap.proofs.run_laws.orders_make_one_history.Goals as goal

pub returns : goal.returns
returns c = one_of
