-- What a call answers, and why.
use Rattle.std.specs.Prelude.{ℕ, ◌≡◌, ◌≢◌, ◌⊎◌, Bool, true, false, List, [], ◌∷◌, codes}
use Rattle.exit_statuses.specs.declared.refusal.Refusal.{Refusal}
use Rattle.exit_statuses.specs.declared.refusal.Refusal.TheVariants.{BadLine, TooLong, OutOfMemory, BadOrder}
use Rattle.exit_statuses.specs.Exits.{Exit, IsWritten, IsEnded}
use Rattle.exit_statuses.specs.Refusals as calls
use Rattle.exit_statuses.specs.Refusals.{AreNone, HasRead}
use Rattle.exit_statuses.specs.Sides.{Sides}
use Rattle.never_heap.specs.Graphs.{start_graph}
use Rattle.trace_text.specs.Jobs.{Job}
use Rattle.trace_text.specs.Lines.{lines_of}
use Rattle.rt_check.specs.Inputs.{check_limit, order_part, IsTooLong, HasBadLine, HasJob}
use Rattle.rt_check.specs.Taken.{AreMoves, FirstLeft}
use Rattle.rt_check.specs.declared.moves.Move.{Move}
use Rattle.rt_check.specs.declared.rt_limit.counts.Figures.{Figures}
use Rattle.rt_check.specs.declared.rt_limit.top.LimitExit.{LimitExit}
use Rattle.rt_check.specs.rt_limit.Figures.{AreFigures}
use Rattle.rt_check.specs.rt_limit.Moments.{by_threads}
use Rattle.rt_check.specs.rt_limit.NeedTexts.{IsText}

-- the order of a job's commands: the one that these lines tell, or where there is none one thread
-- after the other
abbrev pub IsOrder : List (List ℕ) → Job → Bool → List Move → Type 0
IsOrder lines job true ms = (lines ≢ []) × AreMoves job.config job.traces lines ms
IsOrder lines job false ms = (lines ≡ []) × (ms ≡ by_threads 0 job.traces)

-- the figures of the job's order, and their text
pub record AreNeeds (lines : List (List ℕ)) (job : Job) (text : List ℕ) : Type 0 where
  pub given : Bool
  pub moves : List Move
  pub order : IsOrder lines job given moves
  pub figures : Figures
  pub are_figures : AreFigures job.config.width (start_graph job.config) moves figures
  pub is_text : IsText job.config given figures text

-- the n-th line is the first that is not taken
pub record IsLeftOrder (lines : List (List ℕ)) (job : Job) (n : ℕ) : Type 0 where
  pub some : lines ≢ []
  pub first : FirstLeft job.config job.traces [] lines n

-- why there are no figures: a line of the order, or want of memory
abbrev pub HasNoNeeds : List (List ℕ) → Job → Refusal → Type 0
HasNoNeeds lines job r =
    ((n : ℕ) × (r ≡ BadOrder n) × IsLeftOrder lines job n) ⊎ (r ≡ OutOfMemory)

-- the text of the needs of the bytes' job
abbrev pub HasNeeds : List ℕ → List ℕ → Type 0
HasNeeds bytes text =
    (job : Job) × HasJob bytes job × AreNeeds (lines_of (order_part bytes)) job text

-- which bytes are refused, and why, and which are not
abbrev pub Causes : List ℕ → Refusal → Type 0
Causes bytes TooLong = IsTooLong bytes
Causes bytes (BadLine line why) = HasBadLine bytes line why
Causes bytes (BadOrder n) =
    (job : Job) × HasJob bytes job × IsLeftOrder (lines_of (order_part bytes)) job n
Causes bytes r = ⊥

abbrev pub IsFine : List ℕ → Type 0
IsFine bytes = (text : List ℕ) × HasNeeds bytes text

-- why bytes that were read have no text: what they are, or want of memory
abbrev pub HasNoText : List ℕ → Refusal → Type 0
HasNoText bytes r = Causes bytes r ⊎ (r ≡ OutOfMemory)

-- what caused a refusal, by the words, of which there are to be none, and by the source
abbrev pub IsCause : List (List ℕ) → Sides → Refusal → Type 0
IsCause words source r = calls.IsCause AreNone AreNone check_limit Causes words source r

-- the text of the needs of the job that was read was written
pub record AreTold (source sink : Sides) (status : ℕ) : Type 0 where
  pub text : List ℕ
  pub read : HasRead check_limit (λ bytes. HasNeeds bytes text) source
  pub written : IsWritten sink status text

-- what a call was given, and what it answered
abbrev pub exit_of : List (List ℕ) → Sides → Sides → LimitExit → Exit
exit_of words source sink x = record {
  words = words;
  source = source;
  sink = sink;
  status = x.status;
  due = x.due;
}

-- a call did what it is to do, whatever it was given
pub record IsCarriedOut (words : List (List ℕ)) (source sink : Sides) (x : LimitExit) : Type 0 where
  -- Each status has its cause, and known bytes get the status that they have.
  pub ended : IsEnded AreNone AreNone check_limit Causes IsFine (9 ∷ []) (codes "rt_limit")
      (exit_of words source sink x)
  -- Where nothing refused it, the needs were told.
  pub told : x.due ≡ 0 → AreTold source sink x.status
