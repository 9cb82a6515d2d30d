use Rattle.never_heap.proofs.NoFullRuns.{none_full}
use Rattle.never_heap.proofs.run_laws.fulls_need_live_blocks.Goals as goal

pub returns : goal.returns
returns c = none_full
