use Rattle.std.proofs.Common.{◌≤◌}
use Rattle.call_tests.proofs.application_tests.plant.the_output_is_clamped_and_does_not_wind_up.Given as goal

abbrev pub invariant-loop-output : goal.invariant-loop-output
invariant-loop-output g l = l.state.integral ≤ 16384000

abbrev pub invariant-loop-tick : goal.invariant-loop-tick
invariant-loop-tick g l = l.state.integral ≤ 16384000
