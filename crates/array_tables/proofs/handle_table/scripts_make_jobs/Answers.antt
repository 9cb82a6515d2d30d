use Rattle.array_tables.proofs.handle_table.Jobs.{jobs_fit}
use Rattle.array_tables.proofs.handle_table.scripts_make_jobs.Goals as goal

pub returns : goal.returns
returns c = jobs_fit
