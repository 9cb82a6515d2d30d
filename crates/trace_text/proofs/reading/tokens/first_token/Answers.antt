use Rattle.std.proofs.Common.{◌+◌, ◌==◌, add-one, sym, ◌∙◌}
use Rattle.std.proofs.lemmas.List.{take_rest}
use Rattle.std.proofs.lemmas.List.Quantifiers.{position-Some}
use Rattle.trace_text.proofs.ByteSplits.{tokens_at, tokens_none, position_none}
use Rattle.trace_text.proofs.reading.tokens.first_token.Goals as goal

pub returns-in-Some : goal.returns-in-Some
returns-in-Some c =
    let place = position-Some (λ b. b == 32) c.args.line.now c.in-Some.end 0
    (sym c.index_of.ensures ∙ c.in-Some.is) in
    rw (take_rest c.args.line.now (c.in-Some.end + 1), add-one)
    (tokens_at c.args.line.now c.in-Some.end place.0 place.1 place.2)

pub returns-in-None : goal.returns-in-None
returns-in-None c = tokens_none c.args.line.now
    (position_none (λ b. b == 32) c.args.line.now (sym c.in-None.ensures))
