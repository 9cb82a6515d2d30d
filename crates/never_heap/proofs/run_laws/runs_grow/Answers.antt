use Rattle.never_heap.proofs.CycleGrowth.{licensed_more, right_work_more}
use Rattle.never_heap.proofs.run_laws.runs_grow.Goals as goal

pub returns-clause-licensed : goal.returns-clause-licensed
returns-clause-licensed c = licensed_more

pub returns-clause-work : goal.returns-clause-work
returns-clause-work c = right_work_more
