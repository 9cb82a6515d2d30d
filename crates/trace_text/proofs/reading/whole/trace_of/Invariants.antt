use Rattle.std.proofs.Common.{◌+◌, ◌≤◌, length, vec_len}
use Rattle.trace_text.specs.Jobs.{input_limit}
use Rattle.trace_text.specs.Reading.{tokenized}
use Rattle.trace_text.proofs.WholeLaws.{IsSoFar}
use Rattle.trace_text.proofs.reading.whole.trace_of.Given as goal

-- the commands so far, and those of the lines that are left, are those of all lines
abbrev pub invariant-loop-line : goal.invariant-loop-line
invariant-loop-line l = record {
  so_far : IsSoFar l.config (tokenized l.rest.lines.now) l.trace.items (tokenized l.lines);
  within : l.rest.read + vec_len l.trace + length l.lines ≤ input_limit;
}

abbrev pub decreases-loop-line : goal.decreases-loop-line
decreases-loop-line l = length l.lines
