use Rattle.std.proofs.Common.{length}
use Rattle.rt_check.proofs.InputParts.{Passed}
use Rattle.rt_check.proofs.input.order_of.Given as goal

abbrev pub invariant-loop-line : goal.invariant-loop-line
invariant-loop-line l = Passed l.input l.rest

abbrev pub decreases-loop-line : goal.decreases-loop-line
decreases-loop-line l = length l.rest
