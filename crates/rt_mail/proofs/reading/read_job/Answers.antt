use Rattle.std.proofs.lemmas.Result.{err_from_is_err_and}
use Rattle.rt_mail.proofs.Apart.{refused_by_source}
use Rattle.rt_mail.proofs.reading.read_job.Goals as goal

pub returns-in_err-text-clause-refused : goal.returns-in_err-text-clause-refused
returns-in_err-text-clause-refused g c =
    let p = err_from_is_err_and c.from_residual.result c.from_residual.ensures.1 in
    rw (p.1, p.2) (refused_by_source _ _ c.in_err-text.ensures.refused)
