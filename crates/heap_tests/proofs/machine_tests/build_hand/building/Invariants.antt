use Rattle.block_store.specs.Configs.{IsInBounds}
use Rattle.build_steps.specs.Fits.{BuildFits}
use Rattle.heap_tests.proofs.machine_tests.build_hand.building.Given as goal

abbrev pub invariant-loop-block : goal.invariant-loop-block
invariant-loop-block l = IsInBounds l.c × BuildFits l.c l.pass
