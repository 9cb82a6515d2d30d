-- What the threads of the second heap keep, and what they recall.
use Rattle.std.specs.Prelude.{ℕ, ◌≡◌, List, [], ◌∷◌, length, map}
use Rattle.atom_board.specs.Mutators.{ClosedState}
use Rattle.never_heap.specs.declared.Entry.{Entry}
use Rattle.never_heap.specs.declared.Reply.{Reply}
use Rattle.never_heap.specs.Licensed.{NoFulls}
use Rattle.array_tables.specs.number_rings.Rings.{ring_config, ring_traces, recalled}
use Rattle.atom_board.specs.threaded_runs.EndedRuns.{HasHistory, job_of}
use Rattle.trace_text.specs.Jobs.{Job}

-- the job of threads that keep these numbers, each those of one list in a ring of its own
abbrev pub ring_job : List (List ℕ) → Job
ring_job lists = record { config = ring_config (length lists); traces = ring_traces lists }

-- A run of that job: it has a history, and no allocation of it was answered full.
pub record HasRings (lists : List (List ℕ)) (run : ClosedState) : Type 0 where
  pub job : job_of run ≡ ring_job lists
  pub ran : HasHistory run
  pub none_full : NoFulls ran.history

-- the replies of a log
abbrev pub replies_of : List Entry → List Reply
replies_of log = map (λ (e : Entry). e.reply) log

-- the numbers that each thread recalled after its keeps, read from its log
abbrev pub recalled_in : List (List ℕ) → List (List Entry) → List (List ℕ)
recalled_in [] logs = []
recalled_in (vs ∷ lists) [] = recalled (length vs) [] ∷ recalled_in lists []
recalled_in (vs ∷ lists) (log ∷ logs) =
    recalled (length vs) (replies_of log) ∷ recalled_in lists logs
