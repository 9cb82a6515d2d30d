use Rattle.grey_steps.proofs.AllRules.{keeps_heap}
use Rattle.grey_steps.proofs.laws.rows_keep_the_heap.Goals as goal

pub returns : goal.returns
returns c = keeps_heap
