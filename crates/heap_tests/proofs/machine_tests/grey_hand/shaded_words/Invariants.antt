use Rattle.block_store.specs.Configs.{IsInBounds}
use Rattle.grey_steps.specs.Fits.{GreyFits}
use Rattle.heap_tests.proofs.machine_tests.grey_hand.shaded_words.Given as goal

abbrev pub invariant-loop-step : goal.invariant-loop-step
invariant-loop-step l = IsInBounds l.c × GreyFits l.c l.pass × GreyFits l.c l.by_hand
