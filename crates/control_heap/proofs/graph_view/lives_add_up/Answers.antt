use Rattle.control_heap.proofs.graph_view.LifeUse.{used, fits}
use Rattle.control_heap.proofs.graph_view.lives_add_up.Goals as goal

pub returns-clause-used : goal.returns-clause-used
returns-clause-used c =
    used c.histories_are_right.ensures.right c.histories_are_right.ensures.units

pub returns-clause-fits : goal.returns-clause-fits
returns-clause-fits c =
    fits c.histories_are_right.ensures.right c.histories_are_right.ensures.units
