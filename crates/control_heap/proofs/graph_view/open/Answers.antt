use Rattle.control_heap.proofs.graph_view.GraphAnswers.{opened_shows}
use Rattle.control_heap.proofs.graph_view.«open».Goals as goal

pub returns-clause-shown : goal.returns-clause-shown
returns-clause-shown c small = opened_shows c.args.c _ c.«open».ensures.config c.«open».ensures.stands small
