use Rattle.live_tables.proofs.counters.Lawful.{law}
use Rattle.live_tables.proofs.counters.CountersTable.is_lawful.Goals as goal

pub returns : goal.returns
returns _ = law
