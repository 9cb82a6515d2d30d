use Rattle.live_tables.proofs.rows.Crews.{in_order_each}
use Rattle.thread_tests.proofs.handles.each_handle_leaves_once.Goals as goal

pub close-requires : goal.close-requires
close-requires g c = in_order_each c.in-Ok.table c.in_ok-rest.rest.items c.in_ok-rest.ensures
