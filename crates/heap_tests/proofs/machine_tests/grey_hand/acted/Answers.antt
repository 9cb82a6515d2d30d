use Rattle.grey_steps.specs.Rows.{grey_want}
use Rattle.heap_tests.proofs.machine_tests.HeldWords.{held_there}
use Rattle.heap_tests.proofs.machine_tests.grey_hand.acted.Goals as goal

pub got-requires-clause-word : goal.got-requires-clause-word
got-requires-clause-word c = held_there c.args.c.now c.new-places.result c.new-places.ensures (λ e. grey_want c.args.pass.now) c.act-word.result c.place_of.result c.want-wanted.result (c.rows_stay_in_the_heap.ensures.place c.args.c.now c.args.pass.now c.requires.fits) c.want-wanted.ensures c.place_of.ensures c.in_ok-can_hold.ensures
