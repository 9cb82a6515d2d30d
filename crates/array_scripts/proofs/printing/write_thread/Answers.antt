use Rattle.std.proofs.Common.{◌∙◌, ap, subst, List, ℕ}
use Rattle.trace_text.specs.Streams.{AppendsPrefix}
use Rattle.trace_text.proofs.AppendedTexts.{at_err, lines_front}
use Rattle.array_scripts.specs.Tellings.{answer_line}
use Rattle.array_scripts.proofs.printing.write_thread.Goals as goal

pub returns-in_err-put-clause-prefix : goal.returns-in_err-put-clause-prefix
returns-in_err-put-clause-prefix g c =
    let held = g.W.Sink.held in
    let line = answer_line g.K.Scripted.text c.args.thread in
    let P : List ℕ → Type 0 =
    λ text. AppendsPrefix (held c.loop-answer.sink) (held c.put.new.self) text in
    let front = subst P (c.bytes.ensures ∙ c.fill_answer.ensures ∙ ap line c.answer-item.is)
    c.in_err-put.ensures.prefix in
    at_err c.from_residual.result
    (lines_front line _ _ _ c.args.told.now c.loop-answer.answer-index c.answer-item.result
    c.loop-answer-test.true c.loop-answer.invariant.written front)
