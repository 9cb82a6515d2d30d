use Rattle.std.proofs.Common.{ap, ◌∙◌, subst, List, ℕ, OnOk, OnErr}
use Rattle.trace_text.specs.Streams.{Appends, AppendsPrefix}
use Rattle.historian_core.specs.Windows.{figures_line}
use Rattle.historian_core.proofs.tell.Goals as goal

pub returns-clause-kept : goal.returns-clause-kept
returns-clause-kept g c = λ xs k. (c.take.ensures xs k).1

pub returns-clause-written : goal.returns-clause-written
returns-clause-written g c = λ xs k.
    let held = g.K.Sink.held in
    let by = c.take.ensures xs k in
    subst (λ (text : List ℕ). OnOk c.put.result (Appends (held c.args.sink.now)
    (held c.put.new.self) text)) (c.bytes.ensures ∙ c.line-line.ensures ∙ ap figures_line by.0)
    c.put.ensures.appended

pub returns-clause-prefix : goal.returns-clause-prefix
returns-clause-prefix g c = λ xs k.
    let held = g.K.Sink.held in
    let by = c.take.ensures xs k in
    subst (λ (text : List ℕ). OnErr c.put.result (AppendsPrefix (held c.args.sink.now)
    (held c.put.new.self) text)) (c.bytes.ensures ∙ c.line-line.ensures ∙ ap figures_line by.0)
    c.put.ensures.prefix
