-- What was read of the lines of a script.
use Rattle.std.specs.Prelude.{ℕ, ◌≡◌, Option, Some, None, List, [], ◌++◌, length}
use Rattle.exit_statuses.specs.declared.refusal.Refusal.{Refusal}
use Rattle.exit_statuses.specs.declared.refusal.Refusal.TheVariants as refusals
use Rattle.array_scripts.specs.scripts.Scripts.{Start, Among, place_after, told, told_next, bad_line}
use Rattle.array_scripts.specs.declared.header.Header.{Header}
use Rattle.array_scripts.specs.declared.line.Line.{Line}
use Rattle.array_scripts.specs.declared.line.Line.TheVariants as lines
use Rattle.array_scripts.specs.declared.script.Fault.{Fault}
use Rattle.array_scripts.specs.declared.script.Fault.TheVariants.{BadLine, OutOfMemory}
use Rattle.array_scripts.specs.Kinds.{Kind, Tokens, language}
use Rattle.array_scripts.specs.Said.{said}

-- the refusal of a call for a fault of reading
abbrev pub refusal_of : Fault → Refusal
refusal_of (BadLine n) = refusals.BadScriptLine n
refusal_of OutOfMemory = refusals.OutOfMemory

-- a reader refuses for a line, or because memory ran out
abbrev pub Blames : (ℕ → Type 0) → Fault → Type 0
Blames P (BadLine n) = P n
Blames P OutOfMemory = Unit {0}

-- this line is the first of these that may not come at its place
abbrev pub IsFirstBad : {Op : Type 0} → Kind Op → List Tokens → ℕ → Type 0
IsFirstBad kind lines n = bad_line (language kind) Start 1 lines ≡ Some n

-- these operations are in front of what is told
abbrev pub with_front :
    {Op : Type 0} → List Op → Option (List Op × List (List Op)) → Option (List Op × List (List Op))
with_front ops None = None
with_front ops (Some r) = Some (ops ++ r.0, r.1)

-- these scripts are in front of what a thread's line or the end tells
abbrev pub with_scripts :
    {Op : Type 0} → List Op → List (List Op) → Option (List Op × List (List Op))
    → Option (List Op × List (List Op))
with_scripts before scripts None = None
with_scripts before scripts (Some r) = Some (before, scripts ++ r.1)

-- the line is that of a thread, or the end
abbrev pub IsTurn : {Op : Type 0} → Line Op → Type 0
IsTurn (lines.Told op) = ⊥
IsTurn _ = Unit {0}

module _ {Op : Type 0} (kind : Kind Op) (h : Header) where
  -- from line n on, the lines after t thread lines begin with these operations; line m is next
  pub record IsSoFar (t n : ℕ) (all : List Tokens) (ops : List Op) (m : ℕ) (others : List Tokens)
      : Type 0 where
    pub bad : bad_line (language kind) (Among h t []) n all
        ≡ bad_line (language kind) (Among h t ops) m others
    pub tells : told (language kind) h t [] all
        ≡ with_front ops (told (language kind) h t ops others)

  -- and then there is this line
  pub record IsTurned (t n : ℕ) (all : List Tokens) (ops : List Op) (line : Line Op) (m : ℕ)
      (others : List Tokens) : Type 0 where
    pub bad : bad_line (language kind) (Among h t []) n all
        ≡ bad_line (language kind) (place_after (language kind) h t ops (said line)) m others
    pub tells : told (language kind) h t [] all
        ≡ with_front ops (told_next (language kind) h t ops (Some (said line)) others
        (λ u z. told (language kind) h u z others))

  -- these lines tell these scripts, and nothing in front of the first thread's line
  pub record HasTold (all : List Tokens) (scripts : List (List Op)) : Type 0 where
    pub before : List Op
    pub tells : told (language kind) h 0 [] all ≡ Some (before, scripts)

  -- after the lines of these scripts this line was read; line m is next
  pub record AreRead (all : List Tokens) (before : List Op) (scripts : List (List Op))
      (line : Line Op) (m : ℕ) (others : List Tokens) : Type 0 where
    pub turn : IsTurn line
    pub bad : bad_line (language kind) (Among h 0 []) 2 all
        ≡ bad_line (language kind) (place_after (language kind) h (length scripts) [] (said line)) m
        others
    pub tells : told (language kind) h 0 [] all
        ≡ with_scripts before scripts (told_next (language kind) h (length scripts) []
        (Some (said line)) others (λ u z. told (language kind) h u z others))
