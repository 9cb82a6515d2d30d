-- What a check answers, and why.
use Rattle.std.specs.Prelude.{ℕ, ◌≡◌, ◌⊎◌, List, [], ◌∷◌, codes, Option, Some, None, Result, Ok, Err}
use Rattle.exit_statuses.specs.declared.refusal.Refusal.{Refusal}
use Rattle.exit_statuses.specs.declared.refusal.Refusal.TheVariants.{BadLine, TooLong, LiveTooSmall, NoRate, OutOfMemory, BadOrder}
use Rattle.exit_statuses.specs.Exits.{Exit, IsWritten, IsEnded}
use Rattle.exit_statuses.specs.Refusals as calls
use Rattle.exit_statuses.specs.Refusals.{AreNone}
use Rattle.exit_statuses.specs.Sides.{Sides}
use Rattle.rate_plan.specs.declared.PlanFault.TheVariants as plans
use Rattle.rate_plan.specs.Rates.{IsRefusal}
use Rattle.trace_text.specs.Jobs.{Job}
use Rattle.trace_text.specs.Lines.{ended}
use Rattle.rt_check.specs.declared.top.CheckExit.{CheckExit}
use Rattle.rt_check.specs.Inputs.{check_limit, IsTooLong, HasBadLine, HasJob, IsOrderOf, IsBadAt}

-- An answer is a refusal or none: then the order is accepted. The answer that an order has whose
-- job this is.
abbrev pub IsAnswerOf : List ℕ → Job → Option Refusal → Type 0
IsAnswerOf bytes job None = IsOrderOf bytes job
IsAnswerOf bytes job (Some LiveTooSmall) = IsRefusal job.config plans.LiveTooSmall
IsAnswerOf bytes job (Some NoRate) = IsRefusal job.config plans.NoRate
IsAnswerOf bytes job (Some (BadOrder n)) = IsBadAt bytes job n
IsAnswerOf bytes job (Some r) = ⊥

-- the answer that bytes have
abbrev pub IsAnswerTo : List ℕ → Option Refusal → Type 0
IsAnswerTo bytes (Some TooLong) = IsTooLong bytes
IsAnswerTo bytes (Some (BadLine line why)) = HasBadLine bytes line why
IsAnswerTo bytes a = (job : Job) × HasJob bytes job × IsAnswerOf bytes job a

-- the answer to bytes that were read, or want of memory
abbrev pub IsJudged : List ℕ → Option Refusal → Type 0
IsJudged bytes a = IsAnswerTo bytes a ⊎ (a ≡ Some OutOfMemory)

-- the refusal that a judgement is
abbrev pub refused_by : Result (Unit {0}) Refusal → Option Refusal
refused_by (Ok x) = None
refused_by (Err r) = Some r

-- which bytes are refused, and why, and which are accepted
abbrev pub Causes : List ℕ → Refusal → Type 0
Causes bytes r = IsAnswerTo bytes (Some r)

abbrev pub IsAccepted : List ℕ → Type 0
IsAccepted bytes = IsAnswerTo bytes None

-- what caused a refusal, by the words, of which there are to be none, and by the source
abbrev pub IsCause : List (List ℕ) → Sides → Refusal → Type 0
IsCause words source r = calls.IsCause AreNone AreNone check_limit Causes words source r

-- the line of an order that is accepted
abbrev pub ok_line : List ℕ
ok_line = ended (codes "rt_check: ok")

-- what a call was given, and what it answered
abbrev pub exit_of : List (List ℕ) → Sides → Sides → CheckExit → Exit
exit_of words source sink x = record {
  words = words;
  source = source;
  sink = sink;
  status = x.status;
  due = x.due;
}

-- a call did what it is to do, whatever it was given
pub record IsCarriedOut (words : List (List ℕ)) (source sink : Sides) (x : CheckExit) : Type 0 where
  -- Each status has its cause, and known bytes get the answer that they have.
  pub ended : IsEnded AreNone AreNone check_limit Causes IsAccepted (4 ∷ 9 ∷ []) (codes "rt_check")
      (exit_of words source sink x)
  -- Where the order is accepted, it is said so.
  pub accepted : x.due ≡ 0 → IsWritten sink x.status ok_line
