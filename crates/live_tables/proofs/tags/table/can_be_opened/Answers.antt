use Rattle.live_tables.proofs.tags.Opening.{can_open}
use Rattle.live_tables.proofs.tags.table.can_be_opened.Goals as goal

pub returns : goal.returns
returns c = can_open c.args.tags c.args.threads c.requires
