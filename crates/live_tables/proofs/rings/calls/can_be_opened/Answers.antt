use Rattle.live_tables.proofs.rings.Opening.{can_open}
use Rattle.live_tables.proofs.rings.calls.can_be_opened.Goals as goal

pub returns : goal.returns
returns c = can_open c.args.threads c.requires
