use Rattle.std.proofs.Common.{◌≡◌, ◌<◌, ◌+◌, ◌∙◌, ap, arith, inl, inr, refl, sym, subst}
use Rattle.block_store.specs.declared.Config.{Config}
use Rattle.never_heap.specs.Bounds.{IsCommandInBounds}
use Rattle.trace_text.specs.Faults.{Rose}
use Rattle.trace_text.specs.JobTexts.{line_text}
use Rattle.trace_text.specs.Spellings.{command_line}
use Rattle.trace_text.specs.Streams.{AppendsPrefix}
use Rattle.saved_heap.specs.recorded_heap.Recording.{RecorderOf, RecordsOne}
use Rattle.saved_heap.proofs.recorded_heap.Lines.{not_fits, not_left, on_err, on_ok, recorded_one}
use Rattle.saved_heap.proofs.recorded_heap.recorder.Recorder.ask.Goals as goal

pub returns-then-self-clause-refused : goal.returns-then-self-clause-refused
returns-then-self-clause-refused g c =
    inl (sym (ap (λ (r : RecorderOf g.row.S.Denot). r.torn) c.self.view_is) ∙ c.if-self.true, refl)

pub returns-then-not-in_bounds-clause-refused : goal.returns-then-not-in_bounds-clause-refused
returns-then-not-in_bounds-clause-refused g c = (
  sym (ap (λ (r : RecorderOf g.row.S.Denot). r.torn) c.self.view_is) ∙ c.if-self.false,
  not_fits c.in_bounds.result c.config.result.now c.args.self.now.heap.config c.args.command
      c.in_bounds.ensures c.if-not-in_bounds.true
      (c.config.ensures ∙ ap (λ (r : RecorderOf g.row.S.Denot). r.heap.config) c.self.view_is),
  refl,
)

pub returns-then-not-has_left-clause-refused : goal.returns-then-not-has_left-clause-refused
returns-then-not-has_left-clause-refused g c = (
  sym (ap (λ (r : RecorderOf g.row.S.Denot). r.torn) c.self.view_is) ∙ c.if-self.false,
  (
    subst (λ (d : Config). IsCommandInBounds d c.args.command)
        (c.config.ensures ∙ ap (λ (r : RecorderOf g.row.S.Denot). r.heap.config) c.self.view_is)
        (c.in_bounds.ensures.0 c.if-not-in_bounds.false),
    not_left c.has_left.result c.self.inside.heap c.args.self.now.heap c.args.command
        c.has_left.ensures c.if-not-has_left.true
        (ap (λ (r : RecorderOf g.row.S.Denot). r.heap) c.self.view_is),
  ),
  refl,
)

pub returns-then-self-ge-MOST_COMMANDS-clause-refused :
    goal.returns-then-self-ge-MOST_COMMANDS-clause-refused
returns-then-self-ge-MOST_COMMANDS-clause-refused g c =
    let same : c.self.inside.count ≡ c.args.self.now.count =
    ap (λ (r : RecorderOf g.row.S.Denot). r.count) c.self.view_is in
    (omega (arith, same, c.if-self-ge-MOST_COMMANDS.true), refl)

pub returns-then-is_err-clause-refused : goal.returns-then-is_err-clause-refused
returns-then-is_err-clause-refused g c =
    let same = ap (λ (r : RecorderOf g.row.S.Denot). r.sink) c.self.view_is in
    let rose : Rose (g.S.Sink.faults c.self.inside.sink) (g.S.Sink.faults c.write_command.new.sink) =
    on_err c.write_command.result c.is_err.result c.is_err.ensures.value c.if-is_err.true
    c.write_command.ensures.rose in
    let prefix : AppendsPrefix (g.S.Sink.held c.self.inside.sink) (g.S.Sink.held c.write_command.new.sink)
    (line_text (command_line c.args.command)) =
    on_err c.write_command.result c.is_err.result c.is_err.ensures.value c.if-is_err.true
    c.write_command.ensures.prefix in
    inr (
      refl,
      subst (λ s. Rose (g.S.Sink.faults s) (g.S.Sink.faults c.write_command.new.sink)) same rose,
      subst (λ s. AppendsPrefix (g.S.Sink.held s) (g.S.Sink.held c.write_command.new.sink)
          (line_text (command_line c.args.command))) same prefix,
    )

pub returns-clause-recorded : goal.returns-clause-recorded
returns-clause-recorded g c =
    let old : RecorderOf g.row.S.Denot = record {
      heap = c.self.inside.heap;
      sink = c.self.inside.sink;
      count = c.self.inside.count;
      torn = c.self.inside.torn;
    } in
    let new : RecorderOf g.row.S.Denot = record {
      heap = c.request.new.self;
      sink = c.write_command.new.sink;
      count = c.self.inside.count + 1;
      torn = c.self.inside.torn;
    } in
    let fits = subst (λ (d : Config). IsCommandInBounds d c.args.command) c.config.ensures
    (c.in_bounds.ensures.0 c.if-not-in_bounds.false) in
    let few : c.self.inside.count < 131072 = omega (arith, c.if-self-ge-MOST_COMMANDS.false) in
    subst (λ o. RecordsOne g.S.Sink.held o c.args.command c.request.result new) c.self.view_is
    (recorded_one g.S.Sink.held old new c.args.command c.request.result c.request.ensures.config fits
    c.request.ensures.answered
    (on_ok c.write_command.result c.is_err.result c.is_err.ensures.value c.if-is_err.false
    c.write_command.ensures.written) few refl)
