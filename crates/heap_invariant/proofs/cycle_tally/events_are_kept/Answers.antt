use Rattle.heap_invariant.proofs.cycle_tally.Laws.{run_kept}
use Rattle.heap_invariant.proofs.cycle_tally.Steps.{step_kept}
use Rattle.heap_invariant.proofs.cycle_tally.events_are_kept.Goals as goal

pub returns-clause-step : goal.returns-clause-step
returns-clause-step g c rate black s e some plan k may = step_kept c rate black some s k e plan may

pub returns-clause-run : goal.returns-clause-run
returns-clause-run g c rate black s es some plan k may = run_kept c rate black some plan es s k may
