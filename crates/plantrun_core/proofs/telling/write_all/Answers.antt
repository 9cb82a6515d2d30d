use Rattle.std.proofs.Common.{◌∙◌, ap, subst, List, ℕ}
use Rattle.trace_text.specs.Streams.{AppendsPrefix}
use Rattle.trace_text.proofs.AppendedTexts.{at_err, lines_front}
use Rattle.plantrun_core.proofs.telling.write_all.Goals as goal

pub returns-in_err-put-clause-prefix : goal.returns-in_err-put-clause-prefix
returns-in_err-put-clause-prefix g c =
    let held = g.K.Sink.held in
    let P : List ℕ → Type 0 =
    λ text. AppendsPrefix (held c.loop-one.sink) (held c.put.new.self) text in
    let front = subst P (c.bytes.ensures ∙ c.fill.ensures ∙ ap g.T.Told.text c.one-item.is)
    c.in_err-put.ensures.prefix in
    at_err c.from_residual.result
    (lines_front g.T.Told.text _ _ _ c.args.all.now c.loop-one.one-index c.one-item.result
    c.loop-one-test.true c.loop-one.invariant front)
