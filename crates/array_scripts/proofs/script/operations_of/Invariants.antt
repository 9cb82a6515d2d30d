use Rattle.std.proofs.Common.{◌+◌, ◌≤◌, length}
use Rattle.trace_text.specs.Reading.{tokenized}
use Rattle.array_scripts.specs.Parts.{IsSoFar}
use Rattle.array_scripts.proofs.script.operations_of.Given as goal

-- the operations so far, and those of the lines that are left, are those of all lines
abbrev pub invariant-loop-line : goal.invariant-loop-line
invariant-loop-line g l = record {
  so_far : IsSoFar g.K.Scripted.kind l.header l.threads l.first (tokenized l.input)
      (g.K.Scripted.ops l.ops) l.read (tokenized l.lines);
  shrinks : length l.lines ≤ length l.input;
  within : l.read + length l.lines ≤ l.first + length l.input;
}

abbrev pub decreases-loop-line : goal.decreases-loop-line
decreases-loop-line g l = length l.lines
