use Rattle.heap_system.proofs.invariant.InvariantHolds.{run_kept}
use Rattle.heap_system.proofs.step_rows.LawsOfParts.{laws_of}
use Rattle.heap_system.proofs.step_rows.FlipAndStart.{flip_grey, flip_black}
use Rattle.heap_system.proofs.collector.the_flip_finds_what_is_reached.Goals as goal

pub returns-clause-grey : goal.returns-clause-grey
returns-clause-grey _ c r is t x p tl at = flip_grey c is.traces is.job r (run_kept c is.traces (laws_of c) is.job is.turns r is.by_turns) t tl p at x

pub returns-clause-black : goal.returns-clause-black
returns-clause-black _ c r is t x p tl at reached = flip_black c is.traces is.job r (run_kept c is.traces (laws_of c) is.job is.turns r is.by_turns) t tl p at x reached
