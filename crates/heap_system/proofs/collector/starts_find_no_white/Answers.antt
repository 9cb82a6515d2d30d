use Rattle.heap_system.specs.Pictures.{kept_state}
use Rattle.heap_system.proofs.invariant.InvariantHolds.{run_kept}
use Rattle.heap_system.proofs.step_rows.LawsOfParts.{laws_of}
use Rattle.heap_system.proofs.step_rows.FlipAndStart.{start_sweep, start_white, start_black}
use Rattle.heap_system.proofs.step_rows.LoadedBlocks.{or_grey}
use Rattle.heap_system.proofs.collector.starts_find_no_white.Goals as goal

pub returns-clause-white : goal.returns-clause-white
returns-clause-white _ c r is t x p tl at = start_white c is.traces is.job r (run_kept c is.traces (laws_of c) is.job is.turns r is.by_turns) t tl p at x

pub returns-clause-black : goal.returns-clause-black
returns-clause-black _ c r is t x p tl at solid =
    (let kept = run_kept c is.traces (laws_of c) is.job is.turns r is.by_turns in
    or_grey c (kept_state c r) kept.names (start_sweep c is.traces is.job r kept t tl p at) x (start_black c is.traces is.job r kept t tl p at x solid))
