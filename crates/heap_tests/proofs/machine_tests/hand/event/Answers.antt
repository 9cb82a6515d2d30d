use Rattle.block_store.specs.Places.{extent}
use Rattle.barrier_steps.specs.Rows.{field_want}
use Rattle.heap_tests.proofs.machine_tests.HeldWords.{held_there}
use Rattle.heap_tests.proofs.machine_tests.WayToLink.{reads, goes_on}
use Rattle.heap_tests.proofs.machine_tests.hand.event.Goals as goal

pub got-requires-clause-word : goal.got-requires-clause-word
got-requires-clause-word c = (
  held_there c.args.c.now c.new-places.result c.new-places.ensures (λ e. field_want e c.args.pass.now) c.args.word c.place_of.result c.want-wanted.result (c.rows_stay_in_the_heap.ensures.place c.args.c.now c.args.pass.now c.requires.fits) c.want-wanted.ensures c.place_of.ensures c.in_ok-can_hold.ensures,
  reads (extent c.new-places.result) c.args.pass.now.pass c.args.pass.now.command c.args.pass.now.row c.args.word c.args.free c.want-wanted.result c.requires.free c.want-wanted.ensures c.in_ok-may_follow.ensures,
)

pub returns-clause-free : goal.returns-clause-free
returns-clause-free c = goes_on (extent c.new-places.result) c.args.pass.now c.args.word c.args.free c.got.new.pass c.got.ensures.row c.requires.free
