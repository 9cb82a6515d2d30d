-- Which texts are refused, and why.
use Rattle.std.specs.Prelude.{ℕ, List}
use Rattle.exit_statuses.specs.declared.refusal.Refusal.{Refusal}
use Rattle.exit_statuses.specs.declared.refusal.Refusal.TheVariants.{BadLine, TooManyThreads, TooManySays, LiveTooSmall, NoRate}
use Rattle.exit_statuses.specs.Refusals as calls
use Rattle.exit_statuses.specs.Refusals.{AreNone, HasRead}
use Rattle.exit_statuses.specs.Sides.{Sides}
use Rattle.rate_plan.specs.declared.PlanFault.TheVariants as plans
use Rattle.rate_plan.specs.Rates.{IsAdmitted, IsRefusal}
use Rattle.trace_text.specs.Jobs.{Job, IsJob, input_limit}
use Rattle.trace_text.specs.Refusals.{IsFirstBadLine}
use Rattle.rt_mail.specs.Says.{HasFewThreads, HasManyThreads, HasManySays, IsWithin}

-- why a job is refused: by the limits of a post, first that of threads, and then by its plan
abbrev pub IsRefusedJob : Job → Refusal → Type 0
IsRefusedJob job TooManyThreads = HasManyThreads job
IsRefusedJob job TooManySays = HasFewThreads job × HasManySays job
IsRefusedJob job LiveTooSmall = IsWithin job × IsRefusal job.config plans.LiveTooSmall
IsRefusedJob job NoRate = IsWithin job × IsRefusal job.config plans.NoRate
IsRefusedJob job r = ⊥

-- the bytes are a job of which this holds
abbrev pub IsJobWith : (Job → Type 0) → List ℕ → Type 0
IsJobWith P bytes = (job : Job) × IsJob bytes job × P job

-- why bytes are refused: they are no job, or their job is refused
abbrev pub Causes : List ℕ → Refusal → Type 0
Causes bytes (BadLine line why) = IsFirstBadLine bytes line why
Causes bytes r = IsJobWith (λ job. IsRefusedJob job r) bytes

-- the bytes are a job that a post can serve, and whose heap has a rate
abbrev pub IsFine : List ℕ → Type 0
IsFine bytes = IsJobWith (λ job. IsWithin job × IsAdmitted job.config) bytes

-- this job was read
abbrev pub IsReadAs : Sides → Job → Type 0
IsReadAs source job = HasRead input_limit (λ text. IsJob text job) source

-- what caused a refusal, by the words, of which there are to be none, and by the source
abbrev pub IsCause : List (List ℕ) → Sides → Refusal → Type 0
IsCause words source r = calls.IsCause AreNone AreNone input_limit Causes words source r
