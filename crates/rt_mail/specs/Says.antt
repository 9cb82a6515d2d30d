-- What a job may ask of a post.
use Rattle.std.specs.Prelude.{ℕ, ◌<◌, ◌≤◌, [], length, slice_index_or}
use Rattle.rt_mail.specs.said_numbers.Said.{says_in}
use Rattle.trace_text.specs.Jobs.{Job}

-- how many `say` commands thread t has
abbrev pub says_of : Job → ℕ → ℕ
says_of job t = says_in (slice_index_or job.traces t [])

-- at most two threads, and at most 30,000 `say` commands in each trace
abbrev pub HasFewThreads : Job → Type 0
HasFewThreads job = job.config.threads ≤ 2

abbrev pub HasFewSays : Job → Type 0
HasFewSays job = (t : ℕ) → t < length job.traces → says_of job t ≤ 30000

-- more threads, and more `say` commands in some trace
abbrev pub HasManyThreads : Job → Type 0
HasManyThreads job = 2 < job.config.threads

abbrev pub HasManySays : Job → Type 0
HasManySays job = (t : ℕ) × (t < length job.traces) × (30000 < says_of job t)

-- a job that a post can serve
abbrev pub IsWithin : Job → Type 0
IsWithin job = HasFewThreads job × HasFewSays job
