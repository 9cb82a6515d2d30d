use Rattle.std.proofs.Common.{◌+◌, ◌≤◌, length}
use Rattle.trace_text.specs.Lines.{lines_of}
use Rattle.rt_check.proofs.AnswerSoFar.{HasTaken}
use Rattle.rt_check.proofs.taken.moves_of.Given as goal

abbrev pub invariant-loop-line : goal.invariant-loop-line
invariant-loop-line l = record {
  room : l.read + length l.rest ≤ length l.order;
  taken : HasTaken l.job.config l.job.traces (lines_of l.order) (lines_of l.rest) l.read
      l.follower l.moves.items;
}

abbrev pub decreases-loop-line : goal.decreases-loop-line
decreases-loop-line l = length l.rest
