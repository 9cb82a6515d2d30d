use Rattle.live_tables.proofs.tags.Decoded.{law}
use Rattle.live_tables.proofs.tags.kind.TagsTable.is_lawful.Goals as goal

pub returns : goal.returns
returns _ = law
