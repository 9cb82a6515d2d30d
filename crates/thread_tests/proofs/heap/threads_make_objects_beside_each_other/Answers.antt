use Rattle.shared_heap.proofs.Lemmas.{in_order_each}
use Rattle.thread_tests.proofs.heap.threads_make_objects_beside_each_other.Goals as goal

pub close-requires : goal.close-requires
close-requires g c = in_order_each c.in-Ok.heap c.in_ok-done.done.items c.in_ok-done.ensures
