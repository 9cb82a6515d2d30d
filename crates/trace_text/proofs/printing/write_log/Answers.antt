use Rattle.std.proofs.Common.{◌∙◌, subst, List, ℕ}
use Rattle.trace_text.specs.Streams.{AppendsPrefix}
use Rattle.trace_text.specs.RunTexts.{entry_line}
use Rattle.trace_text.proofs.AppendedTexts.{at_err, lines_front}
use Rattle.trace_text.proofs.printing.write_log.Goals as goal

pub returns-in_err-put-clause-prefix : goal.returns-in_err-put-clause-prefix
returns-in_err-put-clause-prefix g c =
    let held = g.K.Sink.held in
    let P : List ℕ → Type 0 =
    λ text. AppendsPrefix (held c.loop-entry.sink) (held c.put.new.self) text in
    let front = subst P (c.bytes.ensures ∙ c.fill_entry.ensures.text) c.in_err-put.ensures.prefix in
    at_err c.from_residual.result
    (lines_front entry_line _ _ _ c.args.log.now c.loop-entry.entry-index _ c.loop-entry-test.true
    c.loop-entry.invariant.written front)
