use Rattle.live_tables.proofs.handles.Decoded.{law}
use Rattle.live_tables.proofs.handles.kind.HandlesTable.is_lawful.Goals as goal

pub returns : goal.returns
returns _ = law
