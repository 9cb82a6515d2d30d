use Rattle.sweep_steps.proofs.FreedBlocks.{keeps_phase}
use Rattle.sweep_steps.proofs.laws.rows_keep_the_heap.Goals as goal

pub returns : goal.returns
returns c = keeps_phase
