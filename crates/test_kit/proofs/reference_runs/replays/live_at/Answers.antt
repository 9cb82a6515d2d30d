use Rattle.test_kit.proofs.reference_runs.Fronts.{before_in_bounds}
use Rattle.test_kit.proofs.reference_runs.replays.live_at.Goals as goal

pub graph_after-requires : goal.graph_after-requires
graph_after-requires c =
    before_in_bounds c.args.c.now c.args.h.now c.before_start.result.now _
    c.before_start.ensures c.requires
