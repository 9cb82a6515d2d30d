use Rattle.never_heap.proofs.ReachableNames.{reachable_closed, reachable_within}
use Rattle.never_heap.proofs.laws.reachable_is_least.Goals as goal

pub returns-clause-closed : goal.returns-clause-closed
returns-clause-closed c = reachable_closed

pub returns-clause-least : goal.returns-clause-least
returns-clause-least c = reachable_within
