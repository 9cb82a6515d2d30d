-- What came of a generated job.
use Rattle.std.proofs.Common.{ℕ, ◌≡◌, List, Option, Some, None, ap, ◌∙◌, subst, arith}
use Rattle.exit_statuses.specs.Exits.{IsWritten}
use Rattle.exit_statuses.specs.Sides.{Sides, IsUntouched}
use Rattle.never_heap.specs.Histories.{starts_in}
use Rattle.trace_text.specs.Streams.{TookAtMost}
use Rattle.trace_text.specs.RunTexts.{totals_line}
use Rattle.exit_statuses.specs.declared.refusal.Refusal.TheVariants.{OutOfMemory}
use Rattle.rtheap_core.specs.declared.task.Task.{Task}
use Rattle.rtheap_core.specs.declared.trial.Totals.{Totals}
use Rattle.rtheap_core.specs.Exits.{Tried}
use Rattle.rtheap_core.specs.Generated.{generated_job}
use Rattle.rtheap_core.specs.Outcomes.{HasTotals}
use Rattle.rtheap_core.specs.Refusals.{IsCause}
use Rattle.rtheap_core.specs.Tasks.{AsksFor}

none_taken : (most : ℕ) (old new : Option (List ℕ)) → new ≡ old → TookAtMost most old new
none_taken most None new same = tt
none_taken most (Some bytes) new same = (0, omega arith, same)

pub memory_cause : (words : List (List ℕ)) (source : Sides) (task : Task) → IsUntouched source
    → AsksFor words task → IsCause words source OutOfMemory
memory_cause words source task untouched asked =
    ((task, asked), (none_taken 16777217 source.bytes source.bytes_now untouched.0, untouched.1))

-- the totals are those of the run
pub tried_of : (sink : Sides) (status key lines : ℕ) (totals : Totals)
    → HasTotals (generated_job key lines) totals
    → IsWritten sink status (totals_line totals.cycles totals.units)
    → Tried sink status key lines
tried_of sink status key lines totals has written = record {
  turns = has.turns;
  few = has.few;
  run = has.run;
  ends = has.ends;
  text = subst (IsWritten sink status)
      (ap (λ k. totals_line k totals.units) has.cycles
      ∙ ap (λ k. totals_line (starts_in has.run.order) k) has.units) written;
}
