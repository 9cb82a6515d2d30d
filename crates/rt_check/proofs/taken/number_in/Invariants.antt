use Rattle.std.proofs.Common.{◌≡◌, drop}
use Rattle.trace_text.specs.Lines.{tokens_of}
use Rattle.rt_check.proofs.taken.number_in.Given as goal

abbrev pub invariant-loop-passed : goal.invariant-loop-passed
invariant-loop-passed l = tokens_of l.rest ≡ drop l._passed (tokens_of l.line)
