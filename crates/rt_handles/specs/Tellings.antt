-- The lines in which operations on handles are answered.
use Rattle.std.specs.Prelude.{ℕ, List, ◌++◌, codes, decimal}
use Rattle.array_scripts.specs.Answers.{answers_from}
use Rattle.array_tables.specs.declared.handle_table.operation.Operation.{Operation}
use Rattle.array_tables.specs.declared.handle_table.told.Outcome.{Outcome}
use Rattle.array_tables.specs.declared.handle_table.told.Outcome.TheVariants.{Made, Taken, Live, Stale, Dropped, Empty, Shown}
use Rattle.array_tables.specs.handle_table.Handles.{Deed, Answer, outcome_of, outcomes_told}
use Rattle.never_heap.specs.declared.Reply.{Reply}
use Rattle.array_tables.specs.operations.Linearizations.{Call}

-- the handle of make k of thread t
abbrev pub handle_text : ℕ → ℕ → List ℕ
handle_text t k = decimal t ++ codes "." ++ decimal k

abbrev pub outcome_text : Outcome → List ℕ
outcome_text (Made t k) = codes "made " ++ handle_text t k
outcome_text Taken = codes "taken"
outcome_text Live = codes "live"
outcome_text Stale = codes "stale"
outcome_text Dropped = codes "dropped"
outcome_text Empty = codes "none"
outcome_text (Shown t k x) = handle_text t k ++ codes " " ++ decimal x

-- what replies to thread t's operations tell
abbrev pub told : ℕ → List Operation → List Reply → List Outcome
told t ops replies = outcomes_told t 0 ops replies

-- what a call came to, and what the calls of n threads did, thread by thread
abbrev pub outcome_in : Call Deed Answer → Outcome
outcome_in c = outcome_of c.operation c.answer

abbrev pub outcomes_from : ℕ → List (Call Deed Answer) → List (List Outcome)
outcomes_from n order = answers_from outcome_in 0 n order
