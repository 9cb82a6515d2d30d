use Rattle.live_tables.proofs.rows.Crews.{in_order_each}
use Rattle.thread_tests.proofs.tags.threads_keep_pairs_together.Goals as goal

pub close-requires : goal.close-requires
close-requires g c = in_order_each c.in-Ok.table c.in_ok-rest.rest.items c.in_ok-rest.ensures
