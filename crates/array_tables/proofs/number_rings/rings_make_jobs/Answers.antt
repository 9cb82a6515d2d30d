use Rattle.array_tables.proofs.number_rings.Jobs.{rings_fit, rings_admitted}
use Rattle.array_tables.proofs.number_rings.rings_make_jobs.Goals as goal

pub returns-clause-bounds : goal.returns-clause-bounds
returns-clause-bounds c = rings_fit

pub returns-clause-admitted : goal.returns-clause-admitted
returns-clause-admitted c = rings_admitted
