use Rattle.never_heap.specs.Graphs.{start_graph}
use Rattle.never_heap.proofs.HistoryGrowth.{replay_more, legal_history_more, part_append}
use Rattle.never_heap.proofs.histories_grow.Goals as goal

pub returns-clause-replay : goal.returns-clause-replay
returns-clause-replay c = λ k h i. replay_more (start_graph k) h i

pub returns-clause-legal : goal.returns-clause-legal
returns-clause-legal c = legal_history_more

pub returns-clause-part : goal.returns-clause-part
returns-clause-part c = part_append
