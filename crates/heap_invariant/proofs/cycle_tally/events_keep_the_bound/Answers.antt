use Rattle.heap_invariant.proofs.cycle_tally.Laws.{bound_of, always_bound}
use Rattle.heap_invariant.proofs.cycle_tally.events_keep_the_bound.Goals as goal

pub returns-clause-kept : goal.returns-clause-kept
returns-clause-kept g c rate black s some k = bound_of c rate black some s k

pub returns-clause-after : goal.returns-clause-after
returns-clause-after g c rate black s es some plan o may =
    always_bound c rate black some plan s o es may
