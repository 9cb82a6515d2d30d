use Rattle.std.proofs.Common.{◌≡◌, ◌<◌, ◌≤◌, ◌∙◌, ap, subst, List, ℕ, length, [], arith}
use Rattle.std.specs.List.{flat_map}
use Rattle.std.proofs.lemmas.Result.{on_ok_weaker, on_err_weaker}
use Rattle.trace_text.specs.Streams.{Appends, AppendsPrefix}
use Rattle.trace_text.specs.RunTexts.{entry_line, totals_line}
use Rattle.trace_text.proofs.AppendedTexts.{appends_in_turn, front_in_turn, front_longer, at_err, lines_front, lines_whole}
use Rattle.trace_text.proofs.printing.write_run.Given.{Over}
use Rattle.trace_text.proofs.printing.write_run.Goals as goal

pub returns-in_err-write_log-clause-prefix : goal.returns-in_err-write_log-clause-prefix
returns-in_err-write_log-clause-prefix g c =
    let held = g.K.Sink.held in
    let logs = g.R.Logs.logs c.args.run.now in
    let P : List ℕ → Type 0 =
    λ text. AppendsPrefix (held c.loop-t.sink) (held c.write_log.new.sink) text in
    let front = subst P
    (ap (flat_map entry_line) c.entries.ensures) c.in_err-write_log.ensures.prefix in
    let lt : c.loop-t.t < length logs =
    omega (arith, c.loop-t-test.true, c.threads-t-end.ensures) in
    at_err c.from_residual.result
    (front_longer _ _ _ _ (lines_front
    (flat_map entry_line) _ _ _ logs c.loop-t.t [] lt c.loop-t.invariant.written front))

-- what is put last is the line of the totals
last_line : (g : Over) (c : goal.After-put g)
    → c.bytes.result.now ≡ totals_line (g.R.Logs.cycle_count c.args.run.now)
    (g.R.Logs.unit_count c.args.run.now)
last_line g c =
    c.bytes.ensures ∙ c.fill_totals.ensures.text
    ∙ ap (λ n. totals_line n c.units.result) c.cycles.ensures
    ∙ ap (totals_line (g.R.Logs.cycle_count c.args.run.now)) c.units.ensures

-- all lines before it were put
before_last : (g : Over) (c : goal.After-put g)
    → Appends (g.K.Sink.held c.args.sink.now) (g.K.Sink.held c.loop-t.sink)
    (flat_map (flat_map entry_line) (g.R.Logs.logs c.args.run.now))
before_last g c =
    let logs = g.R.Logs.logs c.args.run.now in
    let end : length logs ≤ c.loop-t.t =
    omega (arith, c.loop-t-test.false, c.threads-t-end.ensures) in
    lines_whole (flat_map entry_line) _ _ logs c.loop-t.t end c.loop-t.invariant.written

pub returns-clause-written : goal.returns-clause-written
returns-clause-written g c =
    let held = g.K.Sink.held in
    let P : List ℕ → Type 0 = λ text. Appends (held c.loop-t.sink) (held c.put.new.self) text in
    on_ok_weaker c.put.result
    (λ h. appends_in_turn _ _ _ _ _ (before_last g c)
    (subst P (last_line g c) h)) c.put.ensures.appended

pub returns-clause-prefix : goal.returns-clause-prefix
returns-clause-prefix g c =
    let held = g.K.Sink.held in
    let P : List ℕ → Type 0 =
    λ text. AppendsPrefix (held c.loop-t.sink) (held c.put.new.self) text in
    on_err_weaker c.put.result
    (λ h. front_in_turn _ _ _ _ _ (before_last g c)
    (subst P (last_line g c) h)) c.put.ensures.prefix
