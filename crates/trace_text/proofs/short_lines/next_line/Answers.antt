use Rattle.std.proofs.Common.{length, ap, arith, rules}
use Rattle.trace_text.proofs.short_lines.LineByBytes.{read_none, read_more, read_line, read_end, read_long, read_cut}
use Rattle.trace_text.proofs.short_lines.next_line.Goals as goal

pub loop-place-init : goal.loop-place-init
loop-place-init g c = record {
  read = read_none (g.S.Source.left c.args.source.now) c.clear.new.self c.clear.ensures;
  size = ap length c.clear.ensures;
  still = search rules;
}

pub returns-in-Err-clause-found : goal.returns-in-Err-clause-found
returns-in-Err-clause-found g c =
    read_cut _ _ _ _ _ _ c.loop-place.invariant.read c.in-Err.ensures.few

pub returns-in_default-clause-found : goal.returns-in_default-clause-found
returns-in_default-clause-found g c =
    read_end _ _ _ _ _ _ (omega (arith, c.loop-place-test.true)) c.loop-place.invariant.read (c.in-Ok.ensures.end (search rules))
    c.at_end.ensures.none c.at_end.ensures.some

pub returns-then-byte-eq10-clause-found : goal.returns-then-byte-eq10-clause-found
returns-then-byte-eq10-clause-found g c =
    read_line _ _ _ _ c.in-Some.byte _ (omega (arith, c.loop-place-test.true)) c.loop-place.invariant.read
    (rw c.in-Some.is at c.in-Ok.ensures.some) c.if-byte-eq10.true

pub push-requires : goal.push-requires
push-requires g c = omega (arith, c.loop-place.invariant.size, c.loop-place-test.true)

pub loop-place-preserved : goal.loop-place-preserved
loop-place-preserved g c = record {
  read = read_more _ _ _ _ c.in-Some.byte _ _ c.loop-place.invariant.read
      (rw c.in-Some.is at c.in-Ok.ensures.some) c.if-byte-eq10.false c.push.ensures.bytes;
  size = omega (arith, c.push.ensures.length, c.loop-place.invariant.size);
  still = search rules;
}

pub returns-clause-found : goal.returns-clause-found
returns-clause-found g c =
    read_long _ _ _ _ (omega (arith, c.loop-place-test.false, c.loop-place.auto.place-end))
    c.loop-place.invariant.read
