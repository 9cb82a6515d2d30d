use Rattle.std.proofs.Common.{List, ℕ, subst}
use Rattle.std.proofs.lemmas.Result.{err_from_is_err_and}
use Rattle.exit_statuses.specs.Sides.{sides}
use Rattle.trace_text.specs.Refusals.{IsFirstBadLine}
use Rattle.trace_text.specs.Wholes.{IsLineFault}
use Rattle.rtheap_core.proofs.Taken.{refused_by_source, without_job}
use Rattle.rtheap_core.proofs.reading.planned_job.Goals as goal

pub returns-in_err-text-clause-refused : goal.returns-in_err-text-clause-refused
returns-in_err-text-clause-refused g c =
    let p = err_from_is_err_and c.from_residual.result c.from_residual.ensures.1 in
    rw (p.1, p.2) (refused_by_source
    (sides g.S.Source.left g.S.Source.faults c.args.source.now c.text_of.new.source) _
    c.in_err-text.ensures.refused)

pub returns-in_err-job-clause-refused : goal.returns-in_err-job-clause-refused
returns-in_err-job-clause-refused g c =
    let p = err_from_is_err_and c.from_residual-in_err-job.result
    c.from_residual-in_err-job.ensures.1 in
    let fault = subst (λ (b : List ℕ). IsLineFault (IsFirstBadLine b) c.in_err-job.field-0.0)
    c.deref.ensures.value c.in_err-job.ensures in
    rw (p.1, p.2) (without_job
    (sides g.S.Source.left g.S.Source.faults c.args.source.now c.text_of.new.source)
    c.in_ok-text.text.items c.in_ok-text.ensures.whole c.in_ok-text.ensures.still _ fault)
