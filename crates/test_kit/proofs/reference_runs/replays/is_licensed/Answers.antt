use Rattle.test_kit.proofs.reference_runs.Fronts.{front_in_bounds}
use Rattle.test_kit.proofs.reference_runs.replays.is_licensed.Goals as goal

pub is_licensed_item-requires : goal.is_licensed_item-requires
is_licensed_item-requires c = front_in_bounds c.args.c.now c.args.h.now c.loop-i.i c.requires
