use Rattle.std.proofs.Common.{arith}
use Rattle.trace_text.specs.Lines.{tokens_of}
use Rattle.trace_text.specs.Reading.{tokenized}
use Rattle.array_scripts.proofs.LinesSoFar.{turned_at, turn_of}
use Rattle.array_scripts.proofs.script.operations_of.Goals as goal

pub returns-in_default-said : goal.returns-in_default-said
returns-in_default-said g c = record {
  turned = turned_at g.K.Scripted.kind c.args.header.now c.args.threads c.args.first
      (tokenized c.args.input.now) (g.K.Scripted.ops c.loop-line.ops) c.loop-line.read
      (tokenized c.loop-line.lines.now) c.loop-line.invariant.so_far
      (tokens_of c.in-Some.line.now) (tokenized c.in-Some.after.now) c.line_of.result
      c.in-Some-line_of.said c.in-Some.ensures.lines c.in-Some-line_of.is c.line_of.ensures;
  turn = turn_of c.in-Some-line_of.said c.in_default-said.not-Told;
  shorter = omega (arith, c.in-Some.ensures.shorter, c.loop-line.invariant.shrinks);
  within = omega (arith, c.in-Some.ensures.shorter, c.loop-line.invariant.within);
  bad = tt;
}
