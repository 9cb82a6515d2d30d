use Rattle.std.proofs.Common.{◌≡◌}
use Rattle.block_store.specs.Configs.{IsInBounds}
use Rattle.build_steps.specs.Fits.{BuildFits}
use Rattle.heap_tests.proofs.machine_tests.build_hand.events.Given as goal

abbrev pub invariant-loop-row : goal.invariant-loop-row
invariant-loop-row l = IsInBounds l.c × BuildFits l.c l.pass × (l.c ≡ l.fn.c)
