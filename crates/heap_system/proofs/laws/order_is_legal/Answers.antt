use Rattle.heap_system.proofs.invariant.InvariantHolds.{run_kept}
use Rattle.heap_system.proofs.step_rows.LawsOfParts.{laws_of}
use Rattle.heap_system.proofs.work.TurnFacts.{right_work}
use Rattle.heap_system.proofs.laws.order_is_legal.Goals as goal

pub returns-clause-legal : goal.returns-clause-legal
returns-clause-legal _ c r is = (run_kept c is.traces (laws_of c) is.job is.turns r is.by_turns).names.ordered.legal

pub returns-clause-starts : goal.returns-clause-starts
returns-clause-starts _ c r is = (run_kept c is.traces (laws_of c) is.job is.turns r is.by_turns).names.ordered.started

pub returns-clause-work : goal.returns-clause-work
returns-clause-work _ c r is = (run_kept c is.traces (laws_of c) is.job is.turns r is.by_turns).counted

pub returns-clause-right : goal.returns-clause-right
returns-clause-right _ c r is rate planned = right_work c is.traces r (run_kept c is.traces (laws_of c) is.job is.turns r is.by_turns) rate planned
