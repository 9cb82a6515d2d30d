use Rattle.std.proofs.Common.{◌≡◌, ◌∙◌, ap, subst, List, ℕ}
use Rattle.std.proofs.lemmas.Result.{on_ok_weaker, on_err_weaker}
use Rattle.trace_text.specs.Streams.{Appends, AppendsPrefix}
use Rattle.trace_text.specs.RunTexts.{totals_line}
use Rattle.trace_text.proofs.AppendedTexts.{appends_in_turn, front_in_turn, front_longer, at_err}
use Rattle.trace_text.proofs.order_writer.write_order.Given.{Over}
use Rattle.trace_text.proofs.order_writer.write_order.Goals as goal

pub returns-in_err-write_items-clause-prefix : goal.returns-in_err-write_items-clause-prefix
returns-in_err-write_items-clause-prefix g c =
    at_err c.from_residual.result (front_longer _ _ _ _ c.in_err-write_items.ensures.prefix)

-- what is put last is the line of the totals
last_line : (g : Over) (c : goal.After-put g)
    → c.bytes.result.now ≡ totals_line (g.R.Logs.cycle_count c.args.run.now)
    (g.R.Logs.unit_count c.args.run.now)
last_line g c =
    c.bytes.ensures ∙ c.fill_totals.ensures.text
    ∙ ap (λ n. totals_line n c.units.result) c.cycles.ensures
    ∙ ap (totals_line (g.R.Logs.cycle_count c.args.run.now)) c.units.ensures

pub returns-clause-written : goal.returns-clause-written
returns-clause-written g c =
    let held = g.K.Sink.held in
    let P : List ℕ → Type 0 =
    λ text. Appends (held c.write_items.new.sink) (held c.put.new.self) text in
    on_ok_weaker c.put.result
    (λ h. appends_in_turn _ _ _ _ _ c.in_ok-write_items.ensures.written
    (subst P (last_line g c) h)) c.put.ensures.appended

pub returns-clause-prefix : goal.returns-clause-prefix
returns-clause-prefix g c =
    let held = g.K.Sink.held in
    let P : List ℕ → Type 0 =
    λ text. AppendsPrefix (held c.write_items.new.sink) (held c.put.new.self) text in
    on_err_weaker c.put.result
    (λ h. front_in_turn _ _ _ _ _ c.in_ok-write_items.ensures.written
    (subst P (last_line g c) h)) c.put.ensures.prefix
