use Rattle.std.proofs.Common.{sym, subst}
use Rattle.heap_machine.specs.Gates.{GateFits}
use Rattle.heap_tests.proofs.machine_tests.gate_hand.got.Goals as goal

pub returns-clause-fits : goal.returns-clause-fits
returns-clause-fits c =
    subst GateFits (sym c.got.ensures.row) (c.gate_rows_stay_in_the_heap.ensures.next c.args.places.now c.args.gate.now c.args.word c.requires.fits c.requires.word)
