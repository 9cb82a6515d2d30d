use Rattle.shared_heap.proofs.Lemmas.{in_order_each}
use Rattle.thread_tests.proofs.heap.threads_count_by_cas.Goals as goal

pub ends_exchanged-workers-requires : goal.ends_exchanged-workers-requires
ends_exchanged-workers-requires g c = in_order_each c.in-Ok.heap c.in_ok-done.done.items c.in_ok-done.ensures
