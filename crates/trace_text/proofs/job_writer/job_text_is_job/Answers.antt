use Rattle.trace_text.proofs.WrittenLines.{text_is_job, text_is_input}
use Rattle.trace_text.proofs.job_writer.job_text_is_job.Goals as goal

pub returns-clause-is_job : goal.returns-clause-is_job
returns-clause-is_job c = text_is_job

pub returns-clause-is_input : goal.returns-clause-is_input
returns-clause-is_input c = text_is_input
