use Rattle.control_heap.proofs.graph_view.GraphAnswers.{starts_small}
use Rattle.control_heap.proofs.graph_view.shown_heaps_met_no_full.Goals as goal

pub returns : goal.returns
returns c h g s =
    c.histories_are_right.ensures.never h s.shows.run s.shows.stands
    (starts_small h.config s.shows.run.order s.small)
