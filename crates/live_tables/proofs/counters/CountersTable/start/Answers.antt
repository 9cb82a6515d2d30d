use Rattle.std.proofs.Common.{refl}
use Rattle.live_tables.proofs.counters.CountersTable.start.Goals as goal

pub returns : goal.returns
returns _ c t shape low = record { places = shape; total_so = refl }
