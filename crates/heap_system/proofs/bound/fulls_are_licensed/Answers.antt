use Rattle.heap_system.proofs.accounting.RunBounds.{licensed, never_full}
use Rattle.heap_system.proofs.step_rows.LawsOfParts.{laws_of}
use Rattle.heap_system.proofs.accounting.TalliesOfParts.{tallies_of}
use Rattle.heap_system.proofs.bound.fulls_are_licensed.Goals as goal

pub returns-clause-licensed : goal.returns-clause-licensed
returns-clause-licensed _ c r is = licensed c is.traces (laws_of c) (tallies_of c) is.job is.turns r is.by_turns is.by_turns.opening.rate is.by_turns.opening.planned

pub returns-clause-never : goal.returns-clause-never
returns-clause-never _ c r is small = never_full c is.traces (laws_of c) (tallies_of c) is.job is.turns r is.by_turns is.by_turns.opening.rate is.by_turns.opening.planned small
