use Rattle.never_heap.proofs.Lemmas.{opening_live}
use Rattle.heap_invariant.proofs.cycle_tally.Laws.{opening_kept}
use Rattle.heap_invariant.proofs.cycle_tally.InitialHeaps.{opens}
use Rattle.heap_invariant.proofs.cycle_tally.openings_are_kept.Goals as goal

pub returns-clause-kept : goal.returns-clause-kept
returns-clause-kept g c rate black s some o = opening_kept c rate black some s o

pub returns-clause-heap : goal.returns-clause-heap
returns-clause-heap g c colour asked requested within room few owes =
    opens c colour asked requested (opening_live c within) room few owes
