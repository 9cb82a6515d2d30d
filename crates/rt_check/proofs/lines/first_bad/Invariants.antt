use Rattle.std.proofs.Common.{◌+◌, ◌≤◌, length}
use Rattle.trace_text.specs.Lines.{lines_of}
use Rattle.rt_check.proofs.VerdictSoFar.{HasLed}
use Rattle.rt_check.proofs.lines.first_bad.Given as goal

abbrev pub invariant-loop-line : goal.invariant-loop-line
invariant-loop-line l = record {
  room : l.read + length l.rest ≤ length l.order;
  led : HasLed l.job.config l.rate l.job.traces (lines_of l.order)
      (lines_of l.rest) l.read l.follower;
}

abbrev pub decreases-loop-line : goal.decreases-loop-line
decreases-loop-line l = length l.rest
