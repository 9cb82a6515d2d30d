use Rattle.trace_text.proofs.OneJob.{one_job}
use Rattle.trace_text.proofs.reading.jobs_are_one.Goals as goal

pub returns : goal.returns
returns c = one_job
