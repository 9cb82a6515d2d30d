use Rattle.atom_board.proofs.MutatorsInOrder.{in_order_each}
use Rattle.heap_tests.proofs.threads.run.Goals as goal

pub close-requires-clause-mutators : goal.close-requires-clause-mutators
close-requires-clause-mutators g c = in_order_each c.in_ok-board.board c.in_ok-done.done.items c.in_ok-done.ensures.mutators
