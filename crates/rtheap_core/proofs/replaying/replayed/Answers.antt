use Rattle.std.proofs.lemmas.Result.{err_from_is_err_and}
use Rattle.rtheap_core.specs.declared.task.Task.TheVariants.{Replay}
use Rattle.exit_statuses.specs.Sides.{sides}
use Rattle.rtheap_core.proofs.Faults.{cause_of, read_and_replayed}
use Rattle.rtheap_core.proofs.replaying.replayed.Goals as goal

pub returns-in_err-job-clause-refused : goal.returns-in_err-job-clause-refused
returns-in_err-job-clause-refused g c =
    let task = Replay c.args.schedule c.args.turns in
    let p = err_from_is_err_and c.from_residual.result c.from_residual.ensures.1 in
    rw (p.1, p.2) (λ words asked. c.in_err-job.ensures.refused words (task, tt, asked))

pub returns-clause-replayed : goal.returns-clause-replayed
returns-clause-replayed g c =
    read_and_replayed (sides g.S.Source.left g.S.Source.faults c.args.source.now c.planned_job.new.source)
    c.in_ok-job.job c.args.schedule c.args.turns c.in_ok-job.ensures.read c.in_ok-job.ensures.rate.0
    c.replay_job.result c.replay_job.ensures.job c.replay_job.ensures.replayed

pub returns-clause-refused : goal.returns-clause-refused
returns-clause-refused g c =
    cause_of (sides g.S.Source.left g.S.Source.faults c.args.source.now c.planned_job.new.source)
    c.in_ok-job.job c.args.schedule c.args.turns c.in_ok-job.ensures.read c.in_ok-job.ensures.rate.0
    c.in_ok-job.ensures.still c.replay_job.result c.replay_job.ensures.fault
