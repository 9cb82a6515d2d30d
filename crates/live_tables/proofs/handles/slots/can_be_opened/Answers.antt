use Rattle.live_tables.proofs.handles.Opening.{can_open}
use Rattle.live_tables.proofs.handles.slots.can_be_opened.Goals as goal

pub returns : goal.returns
returns c = can_open c.args.slots c.args.threads c.requires
