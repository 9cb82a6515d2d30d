use Rattle.live_tables.proofs.rings.Decoded.{law}
use Rattle.live_tables.proofs.rings.kind.RingsTable.is_lawful.Goals as goal

pub returns : goal.returns
returns _ = law
