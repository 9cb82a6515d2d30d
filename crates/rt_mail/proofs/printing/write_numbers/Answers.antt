use Rattle.std.proofs.Common.{◌∙◌, subst, List, ℕ}
use Rattle.trace_text.specs.Streams.{AppendsPrefix}
use Rattle.trace_text.proofs.AppendedTexts.{at_err, lines_front}
use Rattle.rt_mail.specs.Tellings.{number_text}
use Rattle.rt_mail.proofs.printing.write_numbers.Goals as goal

pub returns-in_err-put-clause-prefix : goal.returns-in_err-put-clause-prefix
returns-in_err-put-clause-prefix g c =
    let held = g.K.Sink.held in
    let P : List ℕ → Type 0 =
    λ text. AppendsPrefix (held c.loop-number.sink) (held c.put.new.self) text in
    let front = subst P (c.bytes.ensures ∙ c.fill_number.ensures) c.in_err-put.ensures.prefix in
    at_err c.from_residual.result
    (lines_front number_text _ _ _ c.args.numbers.now c.loop-number.number-index _
    c.loop-number-test.true c.loop-number.invariant.written front)
