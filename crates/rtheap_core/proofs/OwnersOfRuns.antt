-- The owner words of a call that may have run.
use Rattle.std.proofs.Common.{ℕ, List, Option, Some, None, IfSome, take}
use Rattle.exit_statuses.specs.Sides.{Sides}
use Rattle.heap_system.specs.Machines.{Run, IsRunOf}
use Rattle.rate_plan.specs.Rates.{IsAdmitted}
use Rattle.trace_text.specs.Jobs.{Job, IsJobInBounds}
use Rattle.rtheap_core.specs.declared.exit.RunEnd.{RunEnd}
use Rattle.rtheap_core.specs.EndedRuns.{job_of}
use Rattle.rtheap_core.specs.Exits.{Headline}
use Rattle.rtheap_core.specs.Owners.{HasOwners, OwnersStand}

pub owners_stand : ((job : Job) → IsJobInBounds job → IsAdmitted job.config → (turns : List ℕ)
    (r : Run) → IsRunOf job.config job.traces turns r → HasOwners job.config r)
    → (source sink : Sides) (status : ℕ) (o : Option RunEnd)
    → IfSome o (Headline source sink status) → IfSome o (OwnersStand source sink status)
owners_stand law source sink status None h = tt
owners_stand law source sink status (Some end) h = (
  h,
  λ n r by. law (job_of end) h.read.is_job.in_bounds h.admitted (take n h.ran.turned.turns) r by,
)
