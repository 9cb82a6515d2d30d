-- What is read of a source.
use Rattle.std.specs.Prelude.{ℕ, ◌+◌, ◌≤◌, ◌≡◌, ◌⊎◌, List, ◌++◌, length, take, drop, Option, Some, IfSome, Result, Ok, Err}
use Rattle.trace_text.specs.declared.trace_faults.TraceFault.{TraceFault}
use Rattle.trace_text.specs.declared.trace_faults.TraceFault.TheVariants.{ReadFault, TooLong, BadLine, OutOfMemory}
use Rattle.trace_text.specs.Jobs.{Job, input_limit}
use Rattle.trace_text.specs.Streams.{IsAtEnd, TookAtMost}
use Rattle.trace_text.specs.Faults.{Rose}

-- the first k bytes that were left come after what was read before, and the others are left
pub record Adds (k : ℕ) (bytes old new : List ℕ) (left : Option (List ℕ)) : Type 0 where
  pub within : k ≤ length bytes
  pub added : new ≡ old ++ take k bytes
  pub rest : left ≡ Some (drop k bytes)

-- of what was left this front was read, and the others are left
abbrev pub HasRead : Option (List ℕ) → List ℕ → Option (List ℕ) → Type 0
HasRead old front new =
    IfSome old (λ bytes. (rest : List ℕ) × (bytes ≡ front ++ rest) × (new ≡ Some rest))

-- a source is blamed only where its count of faults rose; any other fault leaves the count
abbrev pub CountsFault : TraceFault → ℕ → ℕ → Type 0
CountsFault ReadFault before now = Rose before now
CountsFault TooLong before now = now ≡ before
CountsFault (BadLine line why) before now = now ≡ before
CountsFault OutOfMemory before now = now ≡ before

-- a fault that says nothing of the bytes
abbrev pub IsOfNoByte : TraceFault → Type 0
IsOfNoByte ReadFault = Unit {0}
IsOfNoByte TooLong = ⊥
IsOfNoByte (BadLine line why) = ⊥
IsOfNoByte OutOfMemory = Unit {0}

-- this job, unless the source failed or memory ran out
abbrev pub IsRead : Result Job TraceFault → Job → Type 0
IsRead (Ok found) job = found ≡ job
IsRead (Err fault) job = IsOfNoByte fault

-- this fault, unless the source failed or memory ran out
abbrev pub IsRefused : Result Job TraceFault → TraceFault → Type 0
IsRefused (Ok job) due = ⊥
IsRefused (Err fault) due = (fault ≡ due) ⊎ IsOfNoByte fault

-- where the source failed or memory ran out, at most so many bytes were taken, the first ones
abbrev pub TookFew : TraceFault → ℕ → Option (List ℕ) → Option (List ℕ) → Type 0
TookFew ReadFault most old new = TookAtMost most old new
TookFew TooLong most old new = Unit {0}
TookFew (BadLine line why) most old new = Unit {0}
TookFew OutOfMemory most old new = TookAtMost most old new

-- how far a source was read: to its end for a job or a bad line, and else to the first byte too
-- many at the furthest
abbrev pub StopsAt : Result Job TraceFault → Option (List ℕ) → Option (List ℕ) → Type 0
StopsAt (Ok job) old new = IsAtEnd old new
StopsAt (Err ReadFault) old new = TookAtMost (input_limit + 1) old new
StopsAt (Err TooLong) old new = IfSome old (λ bytes. new ≡ Some (drop (input_limit + 1) bytes))
StopsAt (Err (BadLine line why)) old new = IsAtEnd old new
StopsAt (Err OutOfMemory) old new = TookAtMost (input_limit + 1) old new
