use Rattle.heap_invariant.proofs.name_invariant.Steps.{step_kept, run_kept}
use Rattle.heap_invariant.proofs.name_invariant.events_are_kept.Goals as goal

pub returns : goal.returns
returns c = record {
  step = λ k s e inside kept guard. step_kept k inside s e kept guard;
  run = λ k s es inside kept guards. run_kept k inside es s kept guards;
}
