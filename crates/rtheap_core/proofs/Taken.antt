-- What was read of a source, and why it is no job with a rate.
use Rattle.std.proofs.Common.{ℕ, List}
use Rattle.exit_statuses.specs.declared.refusal.Refusal.{Refusal}
use Rattle.exit_statuses.specs.declared.refusal.Refusal.TheVariants.{OutOfMemory}
use Rattle.exit_statuses.specs.Refusals.{refusal_of, refusal_of_plan, IsReadWhole, IsReadRefusal, HasRead}
use Rattle.exit_statuses.specs.Sides.{Sides, IsUnfailed}
use Rattle.exit_statuses.proofs.WholeTexts.{few_taken, refused_unread, has_read}
use Rattle.rate_plan.specs.declared.PlanFault.{PlanFault}
use Rattle.rate_plan.specs.declared.PlanFault.TheVariants as plans
use Rattle.rate_plan.specs.Rates.{IsAdmitted, IsRefusal}
use Rattle.trace_text.specs.declared.trace_faults.TraceFault.{TraceFault}
use Rattle.trace_text.specs.declared.trace_faults.TraceFault.TheVariants as faults
use Rattle.trace_text.specs.Jobs.{Job, IsJob, input_limit}
use Rattle.trace_text.specs.Refusals.{IsFirstBadLine}
use Rattle.trace_text.specs.Wholes.{IsLineFault}
use Rattle.rtheap_core.specs.declared.task.Task.{Task}
use Rattle.rtheap_core.specs.TopCalls.{IsDoneBy, IsFine}
use Rattle.rtheap_core.specs.Exits.{IsReadAs}
use Rattle.rtheap_core.specs.Refusals.{Causes, IsCause}
use Rattle.rtheap_core.specs.Tasks.{AsksFor, Ask, AskForJob}

pub refused_by_source : (source : Sides) (r : Refusal) → IsReadRefusal input_limit source r
    → (words : List (List ℕ)) → AskForJob words → IsCause words source r
refused_by_source source r c words a =
    refused_unread Ask AskForJob input_limit (Causes words) words (a.0, a.2) a source r c

module _ (source : Sides) (text : List ℕ) (whole : IsReadWhole input_limit source text)
    (still : IsUnfailed source) where
  pub without_job : (fault : TraceFault) → IsLineFault (IsFirstBadLine text) fault
      → (words : List (List ℕ)) → AskForJob words → IsCause words source (refusal_of fault)
  without_job (faults.BadLine line why) f words a =
      (a, has_read source text whole still (λ b. IsFirstBadLine b line why) f)
  without_job faults.OutOfMemory f words a =
      ((a.0, a.2), (few_taken input_limit source text whole, still))
  without_job faults.ReadFault f words a = absurd f
  without_job faults.TooLong f words a = absurd f

  pub without_rate : (job : Job) → IsJob text job → (fault : PlanFault)
      → IsRefusal job.config fault → (words : List (List ℕ)) → AskForJob words
      → IsCause words source (refusal_of_plan fault)
  without_rate job is plans.LiveTooSmall f words a =
      (a, has_read source text whole still (λ b. Causes words b (refusal_of_plan plans.LiveTooSmall)) (job, is, f))
  without_rate job is plans.NoRate f words a =
      (a, has_read source text whole still (λ b. Causes words b (refusal_of_plan plans.NoRate)) (job, is, f))

  pub read_as : (job : Job) → IsJob text job → IsReadAs source job
  read_as job is = record { text = text; whole = whole; is_job = is }

-- ---- a job that was read

module _ (source : Sides) (job : Job) (read : IsReadAs source job) (still : IsUnfailed source) where
  -- want of memory after it has its cause
  pub without_memory : (words : List (List ℕ)) → Ask words → IsCause words source OutOfMemory
  without_memory words a = (a, (few_taken input_limit source read.text read.whole, still))

  -- the task that the words ask for is done by it
  pub fine_read : (words : List (List ℕ)) (task : Task) → AsksFor words task
      → IsAdmitted job.config → IsDoneBy task job → HasRead input_limit (IsFine words) source
  fine_read words task asked admitted done = record {
    text = read.text;
    whole = read.whole;
    holds = record {
      task = task;
      asked = asked;
      job = job;
      is_job = read.is_job;
      admitted = admitted;
      done = done;
    };
    unfailed = still;
  }
