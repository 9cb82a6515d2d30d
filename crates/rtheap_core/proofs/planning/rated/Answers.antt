use Rattle.std.proofs.lemmas.Result.{err_from_is_err_and}
use Rattle.rtheap_core.proofs.planning.rated.Goals as goal

pub returns-in_err-_job-clause-refused : goal.returns-in_err-_job-clause-refused
returns-in_err-_job-clause-refused g c =
    let p = err_from_is_err_and c.from_residual.result c.from_residual.ensures.1 in
    rw (p.1, p.2) (λ words asked. c.in_err-_job.ensures.refused words asked)
