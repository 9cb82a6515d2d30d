use Rattle.never_heap.proofs.CycleGrowth.{graph_at_more, graph_at_next}
use Rattle.never_heap.proofs.run_laws.cycles_start.Goals as goal

pub returns-clause-past : goal.returns-clause-past
returns-clause-past c = graph_at_more

pub returns-clause-next : goal.returns-clause-next
returns-clause-next c = graph_at_next
