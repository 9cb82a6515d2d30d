use Rattle.never_heap.proofs.CycleGrowth.{given_none, given_more, given_ended, given_past}
use Rattle.never_heap.proofs.run_laws.blocks_are_given.Goals as goal

pub returns-clause-start : goal.returns-clause-start
returns-clause-start c = given_none

pub returns-clause-entry : goal.returns-clause-entry
returns-clause-entry c = given_more

pub returns-clause-end : goal.returns-clause-end
returns-clause-end c = given_ended

pub returns-clause-past : goal.returns-clause-past
returns-clause-past c = given_past
