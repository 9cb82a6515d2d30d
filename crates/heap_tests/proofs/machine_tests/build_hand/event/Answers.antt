use Rattle.build_steps.specs.Rows.{build_want}
use Rattle.heap_tests.proofs.machine_tests.HeldWords.{held_there}
use Rattle.heap_tests.proofs.machine_tests.build_hand.event.Goals as goal

pub got-step-requires-clause-word : goal.got-step-requires-clause-word
got-step-requires-clause-word c = held_there c.args.c.now c.new-places.result c.new-places.ensures (λ e. build_want e c.args.pass.now) c.args.row.now.word c.place_of.result c.want-wanted.result (c.rows_stay_in_the_heap.ensures.place c.args.c.now c.args.pass.now c.requires.fits) c.want-wanted.ensures c.place_of.ensures c.in_ok-can_hold.ensures
