use Rattle.heap_system.proofs.invariant.InvariantHolds.{run_kept}
use Rattle.heap_system.proofs.step_rows.LawsOfParts.{laws_of}
use Rattle.heap_system.proofs.alone.Near.{makes_near, near_ends, serves_near, stated}
use Rattle.heap_system.proofs.progress.a_lone_command_ends_near_its_bound.Goals as goal

pub returns-clause-near : goal.returns-clause-near
returns-clause-near _ c r t rate is planned quiet low has =
    near_ends c is.traces is.job rate planned t low r
    (run_kept c is.traces (laws_of c) is.job is.turns r is.by_turns) quiet has

pub returns-clause-allocation : goal.returns-clause-allocation
returns-clause-allocation _ c k rate some = makes_near c k rate some

pub returns-clause-other : goal.returns-clause-other
returns-clause-other _ c k rate none = serves_near c k rate none

pub returns-clause-stated : goal.returns-clause-stated
returns-clause-stated _ c k rate bounds plan = stated c k rate bounds plan
