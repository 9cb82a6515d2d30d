use Rattle.never_heap.proofs.Lemmas.{none_full}
use Rattle.heap_invariant.proofs.cycle_tally.few_live_are_never_refused.Goals as goal

pub returns : goal.returns
returns g c rate s b legal few = none_full c s.order legal b.licensed few
