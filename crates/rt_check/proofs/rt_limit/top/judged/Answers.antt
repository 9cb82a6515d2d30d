use Rattle.std.proofs.lemmas.Result.{err_from_is_err_and}
use Rattle.exit_statuses.specs.Sides.{sides}
use Rattle.rt_check.proofs.rt_limit.AnswerLaws.{refused_by_source}
use Rattle.rt_check.proofs.rt_limit.top.judged.Goals as goal

pub returns-in_err-input-clause-refused : goal.returns-in_err-input-clause-refused
returns-in_err-input-clause-refused g c =
    let p = err_from_is_err_and c.from_residual.result c.from_residual.ensures.1 in
    rw (p.1, p.2) (refused_by_source
    (sides g.S.Source.left g.S.Source.faults c.args.source.now c.text_of.new.source) _
    c.in_err-input.ensures.refused)
