use Rattle.array_tables.proofs.tag_table.Jobs.{jobs_fit}
use Rattle.array_tables.proofs.tag_table.scripts_make_jobs.Goals as goal

pub returns : goal.returns
returns c = jobs_fit
