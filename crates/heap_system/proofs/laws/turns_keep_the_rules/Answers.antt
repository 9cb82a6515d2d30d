use Rattle.heap_system.proofs.invariant.InvariantHolds.{run_kept}
use Rattle.heap_system.proofs.step_rows.LawsOfParts.{laws_of}
use Rattle.heap_system.proofs.laws.turns_keep_the_rules.Goals as goal

pub returns-clause-held : goal.returns-clause-held
returns-clause-held _ c r is = (run_kept c is.traces (laws_of c) is.job is.turns r is.by_turns).held

pub returns-clause-rules : goal.returns-clause-rules
returns-clause-rules _ c r is = (run_kept c is.traces (laws_of c) is.job is.turns r is.by_turns).rules

pub returns-clause-names : goal.returns-clause-names
returns-clause-names _ c r is = (run_kept c is.traces (laws_of c) is.job is.turns r is.by_turns).names
