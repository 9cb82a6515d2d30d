use Rattle.control_heap.proofs.graph_view.GraphAnswers.{small_shown}
use Rattle.control_heap.proofs.graph_view.small_histories_are_shown.Goals as goal

pub returns : goal.returns
returns _ h g r stands graph small = small_shown h g r stands graph small
