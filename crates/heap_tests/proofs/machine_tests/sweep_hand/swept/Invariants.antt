use Rattle.block_store.specs.Configs.{IsInBounds}
use Rattle.sweep_steps.specs.Fits.{SweepFits}
use Rattle.heap_tests.proofs.machine_tests.sweep_hand.swept.Given as goal

abbrev pub invariant-loop-row : goal.invariant-loop-row
invariant-loop-row l = IsInBounds l.c × SweepFits l.c l.pass
