use Rattle.block_store.specs.Configs.{IsInBounds}
use Rattle.build_steps.specs.Fits.{BuildFits}
use Rattle.heap_tests.proofs.machine_tests.build_hand.building_words.Given as goal

abbrev pub invariant-loop-step : goal.invariant-loop-step
invariant-loop-step l = IsInBounds l.c × BuildFits l.c l.pass
