-- One thread after the other: lists of turns in which each turn is of the least thread that is not
-- done, and how many turns a job takes then at most.
use Rattle.std.specs.Prelude.{ℕ, ◌+◌, ◌<◌, ◌≤◌, ◌≡◌, List, [], ◌∷◌, length, slice_index_or}
use Rattle.std.specs.List.{AllByRecursion}
use Rattle.block_store.specs.declared.Config.{Config}
use Rattle.block_store.specs.Counts.{total}
use Rattle.never_heap.specs.declared.Command.{Command}
use Rattle.rate_plan.specs.Rates.{IsRate}
use Rattle.heap_system.specs.Alone.{command_bound}
use Rattle.heap_system.specs.Machines.{State, turned}
use Rattle.heap_system.specs.Systems.{IsLeastUndone}

-- each turn, from a state on, is of the least thread that is not done
abbrev pub IsSerial : Config → State → List ℕ → Type 0
IsSerial c s [] = Unit {0}
IsSerial c s (t ∷ ts) = IsLeastUndone c s t × IsSerial c (turned c t s) ts

-- the sum of the bounds of all commands, at this rate: of a trace, and of a job
abbrev pub trace_bound : Config → ℕ → List Command → ℕ
trace_bound c rate [] = 0
trace_bound c rate (k ∷ ks) = command_bound c rate k + trace_bound c rate ks

abbrev pub job_bound : Config → ℕ → List (List Command) → ℕ
job_bound c rate traces = total c.threads (λ t. trace_bound c rate (slice_index_or traces t []))

-- each of these turns is that of a thread that there is
abbrev pub AreOfThreads : Config → List ℕ → Type 0
AreOfThreads c turns = AllByRecursion (λ (t : ℕ). t < c.threads) turns

-- where there is one thread, these turns are at most as many as the bounds of its commands sum up
-- to
abbrev pub AreFew : Config → List (List Command) → List ℕ → Type 0
AreFew c traces turns = (rate : ℕ) → IsRate c rate → c.threads ≡ 1
    → length turns ≤ job_bound c rate traces
