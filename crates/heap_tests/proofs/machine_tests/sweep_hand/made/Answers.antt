use Rattle.block_store.specs.Places.{extent}
use Rattle.heap_machine.specs.Operations.{op_at}
use Rattle.sweep_steps.specs.Fits.{SweepReads}
use Rattle.sweep_steps.specs.Rows.{sweep_want}
use Rattle.heap_tests.proofs.machine_tests.HeldWords.{held_there, read_there}
use Rattle.heap_tests.proofs.machine_tests.sweep_hand.made.Goals as goal

pub event-requires-clause-reads : goal.event-requires-clause-reads
event-requires-clause-reads c w new acted = read_there c.args.words.now c.want-wanted.result (op_at (extent c.new-places.result) (sweep_want c.args.pass.now)) c.want-wanted.ensures (SweepReads c.new-places.result c.args.pass.now) c.in_ok-word.word c.in_ok-word.ensures.word w acted.0 (held_there c.args.c.now c.new-places.result c.new-places.ensures (λ e. sweep_want c.args.pass.now) c.in_ok-word.word c.place_of.result c.want-wanted.result (c.rows_stay_in_the_heap.ensures.place c.args.c.now c.args.pass.now c.requires.fits) c.want-wanted.ensures c.place_of.ensures c.in_ok-can_hold.ensures)
