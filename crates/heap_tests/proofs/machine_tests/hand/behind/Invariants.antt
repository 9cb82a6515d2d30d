use Rattle.std.proofs.Common.{◌≤◌}
use Rattle.block_store.specs.Configs.{IsInBounds}
use Rattle.barrier_steps.specs.Fits.{FieldFits}
use Rattle.heap_tests.specs.machine_tests.Links.{before_link}
use Rattle.heap_tests.proofs.machine_tests.hand.behind.Given as goal

abbrev pub invariant-loop-number : goal.invariant-loop-number
invariant-loop-number l = IsInBounds l.c × FieldFits l.c l.pass × (l.free ≤ before_link l.pass.command l.pass.row)
