use Rattle.std.proofs.Common.{refl}
use Rattle.live_tables.proofs.rings.kind.RingsTable.start.Goals as goal

pub returns : goal.returns
returns _ c t shape low = record { places = shape; kept_so = refl }
