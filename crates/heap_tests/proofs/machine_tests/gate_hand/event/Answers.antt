use Rattle.heap_machine.specs.Gates.{gate_want}
use Rattle.heap_tests.proofs.machine_tests.HeldWords.{held_there}
use Rattle.heap_tests.proofs.machine_tests.gate_hand.event.Goals as goal

pub got-requires-clause-word : goal.got-requires-clause-word
got-requires-clause-word c = held_there c.args.c.now c.new-places.result c.new-places.ensures (λ e. gate_want e.width c.args.gate.now) c.args.row.now.word c.place_of.result c.want-wanted.result (c.gate_rows_stay_in_the_heap.ensures.place c.args.c.now c.args.gate.now c.requires.fits c.requires.places) c.want-wanted.ensures c.place_of.ensures c.in_ok-can_hold.ensures
