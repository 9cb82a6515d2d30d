use Rattle.heap_system.proofs.invariant.InvariantHolds.{run_kept}
use Rattle.heap_system.proofs.step_rows.LawsOfParts.{laws_of}
use Rattle.heap_system.proofs.step_rows.FlipAndStart.{phase_same, flip_mark, flip_word, start_sweep, start_word, turns_alone}
use Rattle.heap_system.proofs.collector.phases_turn_with_nobody_inside.Goals as goal

pub returns-clause-stays : goal.returns-clause-stays
returns-clause-stays _ c r is t tl e = phase_same c is.traces is.job r (run_kept c is.traces (laws_of c) is.job is.turns r is.by_turns) t tl e

pub returns-clause-flip : goal.returns-clause-flip
returns-clause-flip _ c r is t p tl at = (flip_mark c is.traces is.job r (run_kept c is.traces (laws_of c) is.job is.turns r is.by_turns) t tl p at, flip_word c is.traces is.job r (run_kept c is.traces (laws_of c) is.job is.turns r is.by_turns) t tl p at)

pub returns-clause-start : goal.returns-clause-start
returns-clause-start _ c r is t p tl at = (start_sweep c is.traces is.job r (run_kept c is.traces (laws_of c) is.job is.turns r is.by_turns) t tl p at, start_word c is.traces is.job r (run_kept c is.traces (laws_of c) is.job is.turns r is.by_turns) t tl p at)

pub returns-clause-alone : goal.returns-clause-alone
returns-clause-alone _ c r is t tl e = turns_alone c is.traces is.job r (run_kept c is.traces (laws_of c) is.job is.turns r is.by_turns) t tl e
