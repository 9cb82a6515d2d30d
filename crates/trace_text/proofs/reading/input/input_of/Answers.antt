use Rattle.std.proofs.Common.{◌+◌, arith, rules, refl, ◌∙◌}
use Rattle.std.proofs.lemmas.Result.{err_from_is_err_and}
use Rattle.trace_text.proofs.Fronts.{begins, reads_on, tells, tells_on, ends_on, few_on}
use Rattle.trace_text.proofs.reading.input.input_of.Goals as goal

pub returns-in_err-taken-clause-told : goal.returns-in_err-taken-clause-told
returns-in_err-taken-clause-told g c =
    let left = g.S.Source.left in
    tells_on (left c.args.source.now) (left c.loop-input.source)
    (left c.take_into.new.source) c.loop-input.input.items c.loop-input.invariant.read
    c.in_err-taken.ensures.told

pub returns-in_err-taken-clause-few : goal.returns-in_err-taken-clause-few
returns-in_err-taken-clause-few g c =
    let left = g.S.Source.left in
    let p = err_from_is_err_and c.from_residual-in_err-taken.result
    c.from_residual-in_err-taken.ensures.1 in
    rw (p.1, p.2) (few_on _ (left c.args.source.now) (left c.loop-input.source)
    (left c.take_into.new.source) c.loop-input.input.items _ (c.args.most + 1)
    (search rules) c.loop-input.invariant.read c.in_err-taken.ensures.few)

pub returns-then-taken-eq0-clause-read : goal.returns-then-taken-eq0-clause-read
returns-then-taken-eq0-clause-read g c =
    let left = g.S.Source.left in
    reads_on (left c.args.source.now) (left c.loop-input.source)
    (left c.take_into.new.source) c.loop-input.input.items c.take_into.new.input.items
    c.in_ok-taken.taken c.loop-input.invariant.read c.in_ok-taken.ensures.added

pub returns-then-taken-eq0-clause-ended : goal.returns-then-taken-eq0-clause-ended
returns-then-taken-eq0-clause-ended g c =
    let left = g.S.Source.left in
    λ _. ends_on (left c.args.source.now) (left c.loop-input.source)
    (left c.take_into.new.source) c.loop-input.input.items c.loop-input.invariant.read
    (c.in_ok-taken.ensures.end c.if-taken-eq0.true)

pub returns-then-taken-eq0-clause-told : goal.returns-then-taken-eq0-clause-told
returns-then-taken-eq0-clause-told g c =
    let left = g.S.Source.left in
    tells_on (left c.args.source.now) (left c.loop-input.source)
    (left c.take_into.new.source) c.loop-input.input.items c.loop-input.invariant.read
    c.in_ok-taken.ensures.told

pub returns-clause-told : goal.returns-clause-told
returns-clause-told g c =
    let left = g.S.Source.left in
    tells (left c.args.source.now)
    (left c.loop-input.source) c.loop-input.input.items c.loop-input.invariant.read

pub loop-input-init : goal.loop-input-init
loop-input-init g c = record {
  read = rw c.new-input.ensures.items (begins (g.S.Source.left c.args.source.now));
  within = omega arith;
  piece = c.in_ok-piece.ensures;
  still = refl;
}

pub loop-input-preserved : goal.loop-input-preserved
loop-input-preserved g c =
    let left = g.S.Source.left in
    let moved = c.in_ok-taken.ensures.len in
    record {
      read = reads_on (left c.args.source.now) (left c.loop-input.source)
          (left c.take_into.new.source) c.loop-input.input.items c.take_into.new.input.items
          c.in_ok-taken.taken c.loop-input.invariant.read c.in_ok-taken.ensures.added;
      within = search rules;
      piece = c.loop-input.invariant.piece;
      still = c.in_ok-taken.ensures.cause ∙ c.loop-input.invariant.still;
    }
