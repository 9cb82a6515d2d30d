use Rattle.std.proofs.Common.{◌≡◌}
use Rattle.block_store.specs.Configs.{IsInBounds}
use Rattle.build_steps.specs.Fits.{BuildFits}
use Rattle.heap_tests.proofs.machine_tests.build_hand.writes.Given as goal

abbrev pub invariant-loop-payload : goal.invariant-loop-payload
invariant-loop-payload l = IsInBounds l.c × BuildFits l.c l.pass × (l.c ≡ l.fn.c)
