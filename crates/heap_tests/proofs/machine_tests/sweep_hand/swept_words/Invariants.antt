use Rattle.block_store.specs.Configs.{IsInBounds}
use Rattle.sweep_steps.specs.Fits.{SweepFits}
use Rattle.heap_tests.proofs.machine_tests.sweep_hand.swept_words.Given as goal

abbrev pub invariant-loop-step : goal.invariant-loop-step
invariant-loop-step l = IsInBounds l.c × SweepFits l.c l.pass
