use Rattle.std.proofs.Common.{◌≡◌, ◌+◌, ◌-◌, ◌≤◌, vec_len}
use Rattle.trace_text.specs.Inputs.{HasRead}
use Rattle.trace_text.proofs.reading.input.input_of.Given as goal

-- what was read so far is a prefix of what there was, and at most the first byte too many was read
abbrev pub invariant-loop-input : goal.invariant-loop-input
invariant-loop-input g l = record {
  read : HasRead (g.S.Source.left l.fn.source) l.input.items (g.S.Source.left l.source);
  within : vec_len l.input ≤ l.most + 1;
  piece : vec_len l.piece ≡ 65536;
  still : g.S.Source.faults l.source ≡ g.S.Source.faults l.fn.source;
}

abbrev pub decreases-loop-input : goal.decreases-loop-input
decreases-loop-input g l = (l.most + 1) - vec_len l.input
