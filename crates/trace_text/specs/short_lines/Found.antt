-- What is found where the next line of a source should be. Where the source tells nothing,
-- nothing is said.
use Rattle.std.specs.Prelude.{ℕ, ◌≡◌, ◌≢◌, ◌≤◌, ◌<◌, ◌++◌, length, List, [], ◌∷◌, Option, Some, Result, Ok, Err, IfSome, drop}
use Rattle.std.specs.List.{AllByRecursion}
use Rattle.trace_text.specs.declared.Failed.{Failed}
use Rattle.trace_text.specs.Lines.{lines_of, line_feed}
use Rattle.trace_text.specs.Streams.{TookAtMost}
use Rattle.trace_text.specs.declared.short_lines.Next.{Next}
use Rattle.trace_text.specs.declared.short_lines.Next.TheVariants.{Line, Long, End}

-- this byte was the first of those that were left
abbrev pub LeadsBy : ℕ → Option (List ℕ) → Option (List ℕ) → Type 0
LeadsBy b old new = IfSome old (λ bytes. (rest : List ℕ) × (bytes ≡ b ∷ rest) × (new ≡ Some rest))

-- none was left
abbrev pub EndsAt : Option (List ℕ) → Option (List ℕ) → Type 0
EndsAt old new = IfSome old (λ bytes. (bytes ≡ []) × (new ≡ Some []))

-- the first line is this one, of fewer than 40 bytes, and what is left are the lines after it
pub record LeadsByLine (bytes : List ℕ) (left : Option (List ℕ)) (line : List ℕ) : Type 0 where
  pub short : length line < 40
  pub rest : List ℕ
  pub lines : lines_of bytes ≡ line ∷ lines_of rest
  pub now : left ≡ Some rest

-- the first line has 40 bytes or more, of which 40 were taken
pub record IsLong (bytes : List ℕ) (left : Option (List ℕ)) : Type 0 where
  pub line : List ℕ
  pub others : List (List ℕ)
  pub lines : lines_of bytes ≡ line ∷ others
  pub long : 40 ≤ length line
  pub now : left ≡ Some (drop 40 bytes)

-- The source failed within the first line: the bytes of it that came are gone, and one more may be.
pub record IsCut (bytes : List ℕ) (left : Option (List ℕ)) : Type 0 where
  pub part : List ℕ
  pub rest : List ℕ
  pub split : bytes ≡ part ++ rest
  pub one_line : AllByRecursion (λ b. b ≢ line_feed) part
  pub took : TookAtMost 1 (Some rest) left

-- what is answered of bytes, where this line was read and this is left
abbrev pub IsFound : List ℕ → Option (List ℕ) → List ℕ → Result Next Failed → Type 0
IsFound bytes left line (Ok Line) = LeadsByLine bytes left line
IsFound bytes left line (Ok Long) = IsLong bytes left
IsFound bytes left line (Ok End) = EndsAt (Some bytes) left
IsFound bytes left line (Err _) = IsCut bytes left
