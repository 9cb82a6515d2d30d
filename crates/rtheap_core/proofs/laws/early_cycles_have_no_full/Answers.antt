use Rattle.std.proofs.Common.{subst}
use Rattle.never_heap.specs.Histories.{Did, Legal}
use Rattle.never_heap.specs.Runs.{IsRun}
use Rattle.rtheap_core.proofs.EarlyCycles.{early}
use Rattle.rtheap_core.proofs.laws.early_cycles_have_no_full.Goals as goal

pub returns : goal.returns
returns c k rate traces h bounds plan run past e rest same full =
    early k plan (c.opening_blocks_are_live.ensures k bounds) past e rest
    (subst (λ x. Legal k x) same run.legal)
    (c.runs_are_items_that_may_come.ensures.item k rate traces past (Did e) rest
    (subst (λ x. IsRun k rate traces x) same run)).licensed full
