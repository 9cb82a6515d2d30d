use Rattle.heap_system.proofs.invariant.InvariantHolds.{run_kept}
use Rattle.heap_system.proofs.step_rows.LawsOfParts.{laws_of}
use Rattle.heap_system.proofs.step_rows.FlipAndStart.{free_put}
use Rattle.heap_system.proofs.collector.free_blocks_stand_once.Goals as goal

pub returns-clause-kept : goal.returns-clause-kept
returns-clause-kept _ c r is = (run_kept c is.traces (laws_of c) is.job is.turns r is.by_turns).rules.reuse.free

pub returns-clause-put : goal.returns-clause-put
returns-clause-put _ c r is t tl e = free_put c is.traces is.job r (run_kept c is.traces (laws_of c) is.job is.turns r is.by_turns) t tl e
