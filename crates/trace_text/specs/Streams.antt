-- Bytes that a source gives and a sink takes. Where a stream tells nothing, nothing is said.
use Rattle.std.specs.Prelude.{ℕ, ◌≤◌, ◌≡◌, List, [], ◌++◌, length, take, drop, Option, Some, IfSome, IsSome}

-- of the bytes that were left, the first k are now the first k of the piece, and the others are
-- left
pub record GivesFirst (k : ℕ) (piece bytes : List ℕ) (left : Option (List ℕ)) : Type 0 where
  pub within : k ≤ length bytes
  pub given : take k piece ≡ take k bytes
  pub rest : left ≡ Some (drop k bytes)

-- what is held afterwards is what was held, and this text after it
abbrev pub Appends : Option (List ℕ) → Option (List ℕ) → List ℕ → Type 0
Appends old new text = IfSome old (λ bytes. new ≡ Some (bytes ++ text))

-- the same with a prefix of the text
abbrev pub AppendsPrefix : Option (List ℕ) → Option (List ℕ) → List ℕ → Type 0
AppendsPrefix old new text = IfSome old (λ bytes. (k : ℕ) × (new ≡ Some (bytes ++ take k text)))

-- the stream was read to its end
abbrev pub IsAtEnd : Option (List ℕ) → Option (List ℕ) → Type 0
IsAtEnd old new = IfSome old (λ bytes. new ≡ Some [])

-- of the bytes that were left at most so many were taken, the first ones
abbrev pub TookAtMost : ℕ → Option (List ℕ) → Option (List ℕ) → Type 0
TookAtMost most old new = IfSome old (λ bytes. (k : ℕ) × (k ≤ most) × (new ≡ Some (drop k bytes)))

-- a stream that told its bytes still tells them
abbrev pub StillTells : Option (List ℕ) → Option (List ℕ) → Type 0
StillTells old new = IsSome old → IsSome new
