use Rattle.std.proofs.Common.{◌+◌, ◌≤◌, length, map}
use Rattle.trace_text.specs.Reading.{tokenized}
use Rattle.array_scripts.specs.Parts.{AreRead}
use Rattle.array_scripts.proofs.script.scripts_of.Given as goal

-- the scripts so far, and those of the lines that are left, are those of all lines
abbrev pub invariant-loop-line : goal.invariant-loop-line
invariant-loop-line g l = record {
  so_far : AreRead g.K.Scripted.kind l.header (tokenized l.input) (g.K.Scripted.ops l._none)
      (map (λ ops. ops.items) l.scripts.items) l.line l.read (tokenized l.rest);
  within : l.read + length l.rest ≤ 2 + length l.input;
}

abbrev pub decreases-loop-line : goal.decreases-loop-line
decreases-loop-line g l = length l.rest
