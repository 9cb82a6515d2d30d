use Rattle.never_heap.proofs.ItemsOfRuns.{comes, all_come, begun, none_left, made}
use Rattle.never_heap.proofs.run_laws.runs_are_items_that_may_come.Goals as goal

pub returns-clause-item : goal.returns-clause-item
returns-clause-item c = comes

pub returns-clause-items : goal.returns-clause-items
returns-clause-items c = all_come

pub returns-clause-begun : goal.returns-clause-begun
returns-clause-begun c = begun

pub returns-clause-none_left : goal.returns-clause-none_left
returns-clause-none_left c = none_left

pub returns-clause-run : goal.returns-clause-run
returns-clause-run c = made
