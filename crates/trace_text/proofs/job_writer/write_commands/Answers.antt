use Rattle.std.proofs.Common.{◌∙◌, sym, subst, List, ℕ, length, ◌≤◌, arith}
use Rattle.std.proofs.lemmas.List.Folds.{flat_map-map}
use Rattle.never_heap.specs.declared.Command.{Command}
use Rattle.trace_text.specs.Streams.{Appends, AppendsPrefix}
use Rattle.trace_text.specs.Spellings.{command_line}
use Rattle.trace_text.specs.JobTexts.{line_text}
use Rattle.trace_text.proofs.AppendedTexts.{at_err, lines_front, lines_whole}
use Rattle.trace_text.proofs.job_writer.write_commands.Goals as goal

abbrev text_of : Command → List ℕ
text_of command = line_text (command_line command)

pub returns-in_err-put-clause-prefix : goal.returns-in_err-put-clause-prefix
returns-in_err-put-clause-prefix g c =
    let held = g.K.Sink.held in
    let P : List ℕ → Type 0 =
    λ text. AppendsPrefix (held c.loop-command.sink) (held c.put.new.self) text in
    let Q : List ℕ → Type 0 =
    λ text. AppendsPrefix (held c.args.sink.now) (held c.put.new.self) text in
    let front = subst P (c.bytes.ensures ∙ c.fill_command.ensures) c.in_err-put.ensures.prefix in
    let so_far = lines_front text_of _ _ _ c.args.trace.now c.loop-command.command-index _
    c.loop-command-test.true c.loop-command.invariant.written front in
    at_err c.from_residual.result
    (subst Q (sym (flat_map-map line_text command_line c.args.trace.now)) so_far)

pub returns-clause-written : goal.returns-clause-written
returns-clause-written g c =
    let held = g.K.Sink.held in
    let Q : List ℕ → Type 0 =
    λ text. Appends (held c.args.sink.now) (held c.loop-command.sink) text in
    let end : length c.args.trace.now ≤ c.loop-command.command-index =
    omega (arith, c.loop-command-test.false) in
    let whole = lines_whole text_of _ _ c.args.trace.now c.loop-command.command-index end
    c.loop-command.invariant.written in
    subst Q (sym (flat_map-map line_text command_line c.args.trace.now)) whole
