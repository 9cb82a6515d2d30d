use Rattle.std.proofs.Common.{◌∙◌, subst, List, ℕ}
use Rattle.std.proofs.lemmas.Result.{on_err_weaker}
use Rattle.trace_text.specs.Streams.{Appends, AppendsPrefix}
use Rattle.trace_text.proofs.AppendedTexts.{at_err, front_in_turn, front_longer}
use Rattle.trace_text.proofs.job_writer.write_trace.Goals as goal

pub returns-in_err-put-clause-prefix : goal.returns-in_err-put-clause-prefix
returns-in_err-put-clause-prefix g c =
    let held = g.K.Sink.held in
    let P : List ℕ → Type 0 =
    λ text. AppendsPrefix (held c.args.sink.now) (held c.put.new.self) text in
    at_err c.from_residual.result
    (front_longer _ _ _ _ (subst P
    (c.bytes.ensures ∙ c.line_of_thread.ensures) c.in_err-put.ensures.prefix))

pub returns-clause-prefix : goal.returns-clause-prefix
returns-clause-prefix g c =
    let held = g.K.Sink.held in
    let P : List ℕ → Type 0 = λ text. Appends (held c.args.sink.now) (held c.put.new.self) text in
    let first = subst P (c.bytes.ensures ∙ c.line_of_thread.ensures) c.in_ok-put.ensures.appended in
    on_err_weaker c.write_commands.result
    (λ h. front_in_turn _ _ _ _ _ first h) c.write_commands.ensures.prefix
