use Rattle.std.proofs.Common.{◌∙◌, ◌∷◌, [], ◌++◌, subst, List, ℕ, codes, decimal}
use Rattle.std.proofs.lemmas.Result.{on_ok_weaker, on_err_weaker}
use Rattle.trace_text.specs.Streams.{Appends, AppendsPrefix}
use Rattle.trace_text.proofs.AppendedTexts.{at_err}
use Rattle.rt_mail.specs.Tellings.{last_text}
use Rattle.rt_mail.proofs.WrittenLines.{three_in_turn, first_front, second_front, third_front}
use Rattle.rt_mail.proofs.printing.write_line.Goals as goal

pub returns-in_err-put-clause-prefix : goal.returns-in_err-put-clause-prefix
returns-in_err-put-clause-prefix g c =
    let held = g.K.Sink.held in
    let count : List ℕ = decimal c.args.thread ++ codes " got " ++ decimal c.args.got in
    at_err c.from_residual.result
    (first_front (held c.args.sink.now) (held c.put.new.self) (held c.put.new.self)
    (held c.put.new.self) count (last_text c.args.got c.args.last.now) (10 ∷ [])
    (subst (λ (text : List ℕ). AppendsPrefix (held c.args.sink.now) (held c.put.new.self) text)
    (c.bytes.ensures ∙ c.fill_count.ensures) c.in_err-put.ensures.prefix))

pub returns-in_err-write_last-clause-prefix : goal.returns-in_err-write_last-clause-prefix
returns-in_err-write_last-clause-prefix g c =
    let held = g.K.Sink.held in
    let count : List ℕ = decimal c.args.thread ++ codes " got " ++ decimal c.args.got in
    at_err c.from_residual-in_err-write_last.result
    (second_front (held c.args.sink.now) (held c.put.new.self) (held c.write_last.new.sink)
    (held c.write_last.new.sink) count (last_text c.args.got c.args.last.now) (10 ∷ [])
    (subst (λ (text : List ℕ). Appends (held c.args.sink.now) (held c.put.new.self) text)
    (c.bytes.ensures ∙ c.fill_count.ensures) c.in_ok-put.ensures.appended)
    c.in_err-write_last.ensures.prefix)

pub returns-clause-written : goal.returns-clause-written
returns-clause-written g c =
    let held = g.K.Sink.held in
    let count : List ℕ = decimal c.args.thread ++ codes " got " ++ decimal c.args.got in
    on_ok_weaker c.put-2.result
    (λ h. three_in_turn (held c.args.sink.now) (held c.put.new.self) (held c.write_last.new.sink)
    (held c.put-2.new.self) count (last_text c.args.got c.args.last.now) (10 ∷ [])
    (subst (λ (text : List ℕ). Appends (held c.args.sink.now) (held c.put.new.self) text)
    (c.bytes.ensures ∙ c.fill_count.ensures) c.in_ok-put.ensures.appended)
    c.in_ok-write_last.ensures.written h) c.put-2.ensures.appended

pub returns-clause-prefix : goal.returns-clause-prefix
returns-clause-prefix g c =
    let held = g.K.Sink.held in
    let count : List ℕ = decimal c.args.thread ++ codes " got " ++ decimal c.args.got in
    on_err_weaker c.put-2.result
    (λ h. third_front (held c.args.sink.now) (held c.put.new.self) (held c.write_last.new.sink)
    (held c.put-2.new.self) count (last_text c.args.got c.args.last.now) (10 ∷ [])
    (subst (λ (text : List ℕ). Appends (held c.args.sink.now) (held c.put.new.self) text)
    (c.bytes.ensures ∙ c.fill_count.ensures) c.in_ok-put.ensures.appended)
    c.in_ok-write_last.ensures.written h) c.put-2.ensures.prefix
