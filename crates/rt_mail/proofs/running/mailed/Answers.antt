use Rattle.std.proofs.lemmas.Result.{err_from_is_err_and}
use Rattle.exit_statuses.specs.Sides.{sides}
use Rattle.rt_mail.proofs.Apart.{without_memory}
use Rattle.rt_mail.proofs.KeepableMail.{has_first, taken_keepable, has_mail}
use Rattle.rt_mail.proofs.running.mailed.Goals as goal

pub returns-in_err-first-clause-refused : goal.returns-in_err-first-clause-refused
returns-in_err-first-clause-refused g c =
    let p = err_from_is_err_and c.from_residual-in_err-first.result
    c.from_residual-in_err-first.ensures.1 in
    rw (p.1, p.2) (without_memory
    (sides g.S.Source.left g.S.Source.faults c.args.source.now c.read_job.new.source)
    c.in_ok-job.job c.in_ok-job.ensures.read)

pub returns-in_err-second-clause-refused : goal.returns-in_err-second-clause-refused
returns-in_err-second-clause-refused g c =
    let p = err_from_is_err_and c.from_residual-in_err-second.result
    c.from_residual-in_err-second.ensures.1 in
    rw (p.1, p.2) (without_memory
    (sides g.S.Source.left g.S.Source.faults c.args.source.now c.read_job.new.source)
    c.in_ok-job.job c.in_ok-job.ensures.read)

pub kept-requires-clause-keepable : goal.kept-requires-clause-keepable
kept-requires-clause-keepable g c κs within =
    let source = sides g.S.Source.left g.S.Source.faults c.args.source.now c.read_job.new.source in
    let first = c.in_ok-first.ensures in
    taken_keepable source c.in_ok-first.first
    (has_first source c.in_ok-job.job c.in_ok-first.first c.in_ok-job.ensures.read
    c.in_ok-job.ensures.served first.job first.ran) c.in_ok-first.taken.taken first.taken

pub returns-clause-mail : goal.returns-clause-mail
returns-clause-mail g c =
    let source = sides g.S.Source.left g.S.Source.faults c.args.source.now c.read_job.new.source in
    let first = c.in_ok-first.ensures in
    has_mail source c.in_ok-first.first
    (has_first source c.in_ok-job.job c.in_ok-first.first c.in_ok-job.ensures.read
    c.in_ok-job.ensures.served first.job first.ran) c.in_ok-first.taken.taken first.taken
    c.in_ok-second.second c.in_ok-second.ensures.kept
