use Rattle.std.proofs.Common.{subst, List, ℕ, codes}
use Rattle.std.proofs.lemmas.Result.{on_err_weaker}
use Rattle.std.specs.List.{flat_map}
use Rattle.trace_text.specs.Streams.{AppendsPrefix}
use Rattle.trace_text.proofs.AppendedTexts.{at_err, front_in_turn, front_longer}
use Rattle.rt_mail.specs.Tellings.{number_text}
use Rattle.rt_mail.proofs.WrittenLines.{last_is}
use Rattle.rt_mail.proofs.printing.write_last.Goals as goal

pub returns-in_err-put-clause-prefix : goal.returns-in_err-put-clause-prefix
returns-in_err-put-clause-prefix g c =
    let held = g.K.Sink.held in
    at_err c.from_residual.result
    (subst (λ (text : List ℕ). AppendsPrefix (held c.args.sink.now) (held c.put.new.self) text)
    (last_is c.args.got c.args.last.now c.if-got-eq0.false)
    (front_longer (held c.args.sink.now) (held c.put.new.self) (codes " last")
    (flat_map number_text c.args.last.now) c.in_err-put.ensures.prefix))

pub returns-clause-prefix : goal.returns-clause-prefix
returns-clause-prefix g c =
    let held = g.K.Sink.held in
    on_err_weaker c.write_numbers.result
    (λ h. subst (λ (text : List ℕ).
    AppendsPrefix (held c.args.sink.now) (held c.write_numbers.new.sink) text)
    (last_is c.args.got c.args.last.now c.if-got-eq0.false)
    (front_in_turn (held c.args.sink.now) (held c.put.new.self) (held c.write_numbers.new.sink)
    (codes " last") (flat_map number_text c.args.last.now) c.in_ok-put.ensures.appended h))
    c.write_numbers.ensures.prefix
