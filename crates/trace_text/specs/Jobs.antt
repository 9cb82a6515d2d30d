-- What a job is, and which bytes are one.
use Rattle.std.specs.Prelude.{ℕ, ◌≤◌, ◌≡◌, List, map, length}
use Rattle.block_store.specs.declared.Config.{Config}
use Rattle.never_heap.specs.declared.Command.{Command}
use Rattle.never_heap.specs.Jobs as bounds
use Rattle.trace_text.specs.Lines.{lines_of, tokens_of}
use Rattle.trace_text.specs.Spellings.{job_lines}

-- the most bytes that an input may have
abbrev pub input_limit : ℕ
input_limit = 16777216

-- a configuration, and one trace of commands per thread
pub record Job : Type 0 where
  pub config : Config
  pub traces : List (List Command)

-- its numbers are in their ranges, and there is one trace per thread
abbrev pub IsJobInBounds : Job → Type 0
IsJobInBounds job = bounds.IsJobInBounds job.config job.traces

-- The bytes are this job: their lines are its lines. The last line feed may be missing.
pub record IsJob (bytes : List ℕ) (job : Job) : Type 0 where
  pub in_bounds : IsJobInBounds job
  pub lines : map tokens_of (lines_of bytes) ≡ job_lines job.config job.traces

-- the bytes are this job, and not too many
pub record IsInput (bytes : List ℕ) (job : Job) : Type 0 where
  pub within : length bytes ≤ input_limit
  pub is_job : IsJob bytes job
