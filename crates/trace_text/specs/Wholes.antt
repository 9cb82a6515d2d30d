-- What was read of the lines of an input.
use Rattle.std.specs.Prelude.{ℕ, ◌+◌, ◌≤◌, ◌≡◌, ◌==◌, false, List, [], ◌∷◌, ◌++◌, map, length, codes, decimal, Some, if◌then◌else◌}
use Rattle.std.specs.List.{AllByRecursion}
use Rattle.block_store.specs.declared.Config.{Config}
use Rattle.block_store.specs.Configs.{IsInBounds}
use Rattle.never_heap.specs.declared.Command.{Command}
use Rattle.never_heap.specs.Jobs.{IsTraceInBounds}
use Rattle.trace_text.specs.declared.trace_faults.TraceFault.{TraceFault}
use Rattle.trace_text.specs.declared.trace_faults.TraceFault.TheVariants.{ReadFault, TooLong, BadLine, OutOfMemory}
use Rattle.trace_text.specs.declared.trace_faults.Why.{Why}
use Rattle.trace_text.specs.Spellings.{header, command_line, traces_lines}
use Rattle.trace_text.specs.Reading.{tokenized}
use Rattle.trace_text.specs.Refusals.{next_fault}

-- a reader of lines refuses for a line, or because memory ran out
abbrev pub IsLineFault : (ℕ → Why → Type 0) → TraceFault → Type 0
IsLineFault P ReadFault = ⊥
IsLineFault P TooLong = ⊥
IsLineFault P (BadLine line why) = P line why
IsLineFault P OutOfMemory = Unit {0}

-- the line after the traces of t threads
abbrev pub next_line : Config → ℕ → List (List ℕ)
next_line c t = if t == c.threads then codes "end" ∷ [] else codes "thread" ∷ decimal t ∷ []

-- lines are the commands of a thread, the line after the traces of t threads, and others
pub record IsTrace
    (c : Config) (t : ℕ) (lines : List (List (List ℕ)))
    (trace : List Command) (others : List (List (List ℕ)))
    : Type 0 where
  pub text : lines ≡ map command_line trace ++ next_line c t ∷ others
  pub in_bounds : IsTraceInBounds c trace

-- after commands of thread t - 1 and `read` lines before them there is something wrong
pub record IsBadTrace
    (c : Config) (t : ℕ) (lines : List (List (List ℕ))) (read line : ℕ) (why : Why)
    : Type 0 where
  pub trace : List Command
  pub others : List (List (List ℕ))
  pub text : lines ≡ map command_line trace ++ others
  pub in_bounds : IsTraceInBounds c trace
  pub place : line ≡ read + length trace + 1
  pub fault : next_fault c
      (record { threads = t; commands = length trace; ended = false }) others ≡ Some why

-- the lines of an input are those of a job up to the line after these traces, and others
pub record IsBegun
    (c : Config) (done : List (List Command)) (bytes : List ℕ)
    (read : ℕ) (others : List (List (List ℕ)))
    : Type 0 where
  pub config : IsInBounds c
  pub threads : length done ≤ c.threads
  pub text : tokenized bytes
      ≡ header c ∷ (traces_lines 0 done ++ next_line c (length done) ∷ others)
  pub traces : AllByRecursion (IsTraceInBounds c) done
  pub place : read ≡ length (traces_lines 0 done) + 2
