-- The input of a check: a job's text and, after its line `end`, the lines of an order.
use Rattle.std.specs.Prelude.{ℕ, ◌+◌, ◌≤◌, ◌<◌, ◌≡◌, ◌⊎◌, if◌then◌else◌, List, [], ◌∷◌, length, take, drop, codes}
use Rattle.std.specs.Str.{bytes_eq}
use Rattle.never_heap.specs.Histories.{HistoryItem}
use Rattle.never_heap.specs.Runs.{IsRun}
use Rattle.rate_plan.specs.Rates.{IsAdmitted, IsRate}
use Rattle.trace_text.specs.declared.trace_faults.Why.{Why}
use Rattle.trace_text.specs.Jobs.{Job, IsJob, input_limit}
use Rattle.trace_text.specs.Lines.{lines_of}
use Rattle.trace_text.specs.OrderTexts.{order_lines}
use Rattle.trace_text.specs.Refusals.{IsFirstBadLine}
use Rattle.rt_check.specs.Good.{FirstBad}

-- the most bytes that an input of a check may have
abbrev pub check_limit : ℕ
check_limit = 67108864

-- how many bytes the lines up to and with the first that is `end` have, each with a line feed
abbrev pub job_length : List (List ℕ) → ℕ
job_length [] = 0
job_length (l ∷ ls) =
    if bytes_eq l (codes "end") then length l + 1 else (length l + 1) + job_length ls

-- the bytes of the job are those; all bytes, where no line is `end`
abbrev pub job_part : List ℕ → List ℕ
job_part bytes = take (job_length (lines_of bytes)) bytes

-- the bytes of the order
abbrev pub order_part : List ℕ → List ℕ
order_part bytes = drop (job_length (lines_of bytes)) bytes

-- there are too many bytes, or too many of the job
abbrev pub IsTooLong : List ℕ → Type 0
IsTooLong bytes = (check_limit < length bytes) ⊎ (input_limit < length (job_part bytes))

-- there are not
pub record IsShort (bytes : List ℕ) : Type 0 where
  pub whole : length bytes ≤ check_limit
  pub job : length (job_part bytes) ≤ input_limit

-- the job's bytes are none, and this line of them is the first that is wrong
pub record HasBadLine (bytes : List ℕ) (line : ℕ) (why : Why) : Type 0 where
  pub short : IsShort bytes
  pub first : IsFirstBadLine (job_part bytes) line why

-- the job's bytes are this job
pub record HasJob (bytes : List ℕ) (job : Job) : Type 0 where
  pub short : IsShort bytes
  pub is_job : IsJob (job_part bytes) job

-- the job has a rate, and the lines of the order are the text in order of a run of it
pub record IsOrderOf (bytes : List ℕ) (job : Job) : Type 0 where
  pub admitted : IsAdmitted job.config
  pub rate : ℕ
  pub is_rate : IsRate job.config rate
  pub history : List HistoryItem
  pub is_run : IsRun job.config rate job.traces history
  pub lines : lines_of (order_part bytes) ≡ order_lines history

-- the job has a rate, and the order's n-th line is the first that is not good
pub record IsBadAt (bytes : List ℕ) (job : Job) (n : ℕ) : Type 0 where
  pub admitted : IsAdmitted job.config
  pub rate : ℕ
  pub is_rate : IsRate job.config rate
  pub first_bad : FirstBad job.config rate job.traces [] (lines_of (order_part bytes)) n
