use Rattle.heap_system.proofs.invariant.InvariantHolds.{run_kept}
use Rattle.heap_system.proofs.step_rows.LawsOfParts.{laws_of}
use Rattle.heap_system.proofs.alone.Changes.{changes_apart}
use Rattle.heap_system.proofs.progress.units_part_the_changes_of_a_lone_thread.Goals as goal

pub returns : goal.returns
returns _ c r t i j is quiet low rest before one other =
    changes_apart c is.traces is.job r t low
    (run_kept c is.traces (laws_of c) is.job is.turns r is.by_turns) quiet rest i j before one other
