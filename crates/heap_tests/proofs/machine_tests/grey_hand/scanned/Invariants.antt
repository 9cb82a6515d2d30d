use Rattle.block_store.specs.Configs.{IsInBounds}
use Rattle.grey_steps.specs.Fits.{GreyFits}
use Rattle.heap_tests.proofs.machine_tests.grey_hand.scanned.Given as goal

abbrev pub invariant-loop-row : goal.invariant-loop-row
invariant-loop-row l = IsInBounds l.c × GreyFits l.c l.pass
