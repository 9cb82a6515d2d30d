use Rattle.std.proofs.Common.{refl, ap}
use Rattle.std.specs.Prelude.{Some}
use Rattle.control_heap_c.specs.declared.owned.Owned.TheVariants as owned
use Rattle.control_heap_c.specs.declared.owned.Resting.{Resting}
use Rattle.control_heap_c.proofs.Handing.{same_resting}
use Rattle.control_heap_c.proofs.shared.worker.begun.Goals as goal

pub returns-in-Err : goal.returns-in-Err
returns-in-Err c = (
  (c.args.at.worker, c.args.command, refl, refl, c.in-Err.ensures.refused),
  ap (λ (r : Resting). Some (owned.Resting r)) (same_resting c.args.at _ _ c.in-Err.ensures.unchanged),
)
