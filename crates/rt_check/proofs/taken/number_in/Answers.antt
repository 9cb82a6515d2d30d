use Rattle.std.proofs.Common.{sym, ap, ◌∙◌}
use Rattle.std.specs.Option.{option_copied}
use Rattle.trace_text.specs.Lines.{tokens_of}
use Rattle.trace_text.specs.Reading.{tokens_left}
use Rattle.rt_check.proofs.TokensLeft.{passed_more, passed_all}
use Rattle.rt_check.proofs.taken.number_in.Goals as goal

pub returns-in_err-rest : goal.returns-in_err-rest
returns-in_err-rest c =
    c.from_residual.ensures
    ∙ sym (passed_all (tokens_of c.args.line.now) c.loop-passed._passed c.loop-passed.rest.now
    c.first_token.result.0.now (tokens_left (option_copied c.first_token.result.1))
    c.loop-passed.invariant c.first_token.ensures c.args.before c.loop-passed-test.true
    (ap (λ o. tokens_left (option_copied o)) c.in_err-rest.was))

pub loop-passed-preserved : goal.loop-passed-preserved
loop-passed-preserved c =
    sym (ap (λ o. tokens_left (option_copied o)) c.in_ok-rest.was)
    ∙ passed_more (tokens_of c.args.line.now) c.loop-passed._passed c.loop-passed.rest.now
    c.first_token.result.0.now (tokens_left (option_copied c.first_token.result.1))
    c.loop-passed.invariant c.first_token.ensures
