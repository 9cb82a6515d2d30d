use Rattle.std.proofs.Common.{◌∙◌, subst, List, ℕ}
use Rattle.std.proofs.lemmas.Result.{on_ok_weaker, on_err_weaker}
use Rattle.trace_text.specs.Streams.{Appends, AppendsPrefix}
use Rattle.trace_text.proofs.AppendedTexts.{at_err}
use Rattle.trace_text.proofs.TraceLines.{first_front, middle_front, last_front, all_lines}
use Rattle.trace_text.proofs.WrittenLines.{text_is_job}
use Rattle.trace_text.proofs.job_writer.write_job.Goals as goal

pub returns-in_err-put-clause-is_job : goal.returns-in_err-put-clause-is_job
returns-in_err-put-clause-is_job g c = text_is_job c.args.job.now c.requires

pub returns-in_err-write_traces-clause-is_job : goal.returns-in_err-write_traces-clause-is_job
returns-in_err-write_traces-clause-is_job g c = text_is_job c.args.job.now c.requires

pub returns-clause-is_job : goal.returns-clause-is_job
returns-clause-is_job g c = text_is_job c.args.job.now c.requires

pub returns-in_err-put-clause-prefix : goal.returns-in_err-put-clause-prefix
returns-in_err-put-clause-prefix g c =
    let held = g.K.Sink.held in
    let P : List ℕ → Type 0 =
    λ text. AppendsPrefix (held c.args.sink.now) (held c.put.new.self) text in
    at_err c.from_residual.result
    (first_front c.args.job.now _ _
    (subst P (c.bytes.ensures ∙ c.line_of_header.ensures) c.in_err-put.ensures.prefix))

pub returns-in_err-write_traces-clause-prefix : goal.returns-in_err-write_traces-clause-prefix
returns-in_err-write_traces-clause-prefix g c =
    let held = g.K.Sink.held in
    let P : List ℕ → Type 0 = λ text. Appends (held c.args.sink.now) (held c.put.new.self) text in
    let first = subst P (c.bytes.ensures ∙ c.line_of_header.ensures) c.in_ok-put.ensures.appended in
    at_err c.from_residual-in_err-write_traces.result
    (middle_front c.args.job.now _ _ _ first c.in_err-write_traces.ensures.prefix)

pub returns-clause-written : goal.returns-clause-written
returns-clause-written g c =
    let held = g.K.Sink.held in
    let P : List ℕ → Type 0 = λ text. Appends (held c.args.sink.now) (held c.put.new.self) text in
    let first = subst P (c.bytes.ensures ∙ c.line_of_header.ensures) c.in_ok-put.ensures.appended in
    on_ok_weaker c.put-2.result
    (λ h. all_lines c.args.job.now _ _ _ _ first c.in_ok-write_traces.ensures.written h)
    c.put-2.ensures.appended

pub returns-clause-prefix : goal.returns-clause-prefix
returns-clause-prefix g c =
    let held = g.K.Sink.held in
    let P : List ℕ → Type 0 = λ text. Appends (held c.args.sink.now) (held c.put.new.self) text in
    let first = subst P (c.bytes.ensures ∙ c.line_of_header.ensures) c.in_ok-put.ensures.appended in
    on_err_weaker c.put-2.result
    (λ h. last_front c.args.job.now _ _ _ _ first c.in_ok-write_traces.ensures.written h)
    c.put-2.ensures.prefix
