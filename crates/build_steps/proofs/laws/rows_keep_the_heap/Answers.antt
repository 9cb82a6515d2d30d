use Rattle.build_steps.proofs.AllRules.{keeps_phase, phase_stays}
use Rattle.build_steps.proofs.laws.rows_keep_the_heap.Goals as goal

pub returns : goal.returns
returns c = record {
  kept = keeps_phase;
  phase = phase_stays;
}
