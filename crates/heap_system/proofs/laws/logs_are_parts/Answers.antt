use Rattle.heap_system.proofs.invariant.InvariantHolds.{run_kept}
use Rattle.heap_system.proofs.step_rows.LawsOfParts.{laws_of}
use Rattle.heap_system.proofs.invariant.RunLaws.{rest_told, decided_told, undecided_told, building_told}
use Rattle.heap_system.proofs.laws.logs_are_parts.Goals as goal

pub returns-clause-each : goal.returns-clause-each
returns-clause-each _ c r is t tl = ((run_kept c is.traces (laws_of c) is.job is.turns r is.by_turns).locals t tl).told

pub returns-clause-rest : goal.returns-clause-rest
returns-clause-rest _ c r is t tl e = rest_told c is.traces r (run_kept c is.traces (laws_of c) is.job is.turns r is.by_turns) t tl e

pub returns-clause-decided : goal.returns-clause-decided
returns-clause-decided _ c r is t tl f at e = decided_told c is.traces r (run_kept c is.traces (laws_of c) is.job is.turns r is.by_turns) t tl f at e

pub returns-clause-undecided : goal.returns-clause-undecided
returns-clause-undecided _ c r is t tl f at e = undecided_told c is.traces r (run_kept c is.traces (laws_of c) is.job is.turns r is.by_turns) t tl f at e

pub returns-clause-building : goal.returns-clause-building
returns-clause-building _ c r is t tl b at = building_told c is.traces r (run_kept c is.traces (laws_of c) is.job is.turns r is.by_turns) t tl b at
