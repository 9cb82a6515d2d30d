use Rattle.std.proofs.Common.{◌∙◌, arith}
use Rattle.rt_mail.proofs.RingJob.{job_fits, has_rings}
use Rattle.rt_mail.proofs.keeping.kept.Goals as goal

pub run_job-requires-clause-bounds : goal.run_job-requires-clause-bounds
run_job-requires-clause-bounds g c κs within =
    job_fits c.args.taken.now.taken (omega (arith, c.requires.threads.0, c.requires.threads.2))
    (omega (arith, c.requires.threads.1, c.requires.threads.2)) c.in_ok-job.job
    c.in_ok-job.ensures c.requires.keepable

pub returns-clause-kept : goal.returns-clause-kept
returns-clause-kept g c =
    has_rings c.args.taken.now.taken c.in_ok-run.run'
    (c.in_ok-run.ensures.job ∙ c.in_ok-job.ensures) c.in_ok-run.ensures.ran
