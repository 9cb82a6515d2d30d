-- Why a call was refused: the status, the line and the cause of each refusal.
use Rattle.std.specs.Prelude.{ℕ, ◌≡◌, ◌≤◌, ◌<◌, ◌+◌, ◌⊎◌, List, [], ◌++◌, length, drop, codes, decimal, Some, IfSome}
use Rattle.rate_plan.specs.declared.PlanFault.{PlanFault}
use Rattle.rate_plan.specs.declared.PlanFault.TheVariants as plans
use Rattle.trace_text.specs.declared.trace_faults.TraceFault.{TraceFault}
use Rattle.trace_text.specs.declared.trace_faults.TraceFault.TheVariants as faults
use Rattle.trace_text.specs.Faults.{Rose}
use Rattle.trace_text.specs.Lines.{ended}
use Rattle.trace_text.specs.Reasons.{reason_text}
use Rattle.trace_text.specs.Streams.{IsAtEnd, TookAtMost}
use Rattle.exit_statuses.specs.declared.refusal.Refusal.{Refusal}
use Rattle.exit_statuses.specs.declared.refusal.Refusal.TheVariants.{Usage, BadLine, BadScriptLine, TooLong, TooManyThreads, TooManySays, LiveTooSmall, NoRate, ReadFault, OutOfMemory, TurnsUsed, BadOrder}
use Rattle.exit_statuses.specs.Sides.{Sides, IsUnfailed, IsUntouched}

abbrev pub status_of : Refusal → ℕ
status_of Usage = 2
status_of (BadLine line why) = 3
status_of (BadScriptLine line) = 3
status_of TooLong = 3
status_of TooManyThreads = 3
status_of TooManySays = 3
status_of LiveTooSmall = 4
status_of NoRate = 4
status_of ReadFault = 5
status_of OutOfMemory = 7
status_of (TurnsUsed thread) = 8
status_of (BadOrder line) = 9

-- what a refusal says
abbrev pub refusal_text : Refusal → List ℕ
refusal_text Usage = codes "usage"
refusal_text (BadLine line why) = codes "line " ++ decimal line ++ codes ": " ++ reason_text why
refusal_text (BadScriptLine line) = codes "line " ++ decimal line
refusal_text TooLong = codes "input too long"
refusal_text TooManyThreads = codes "too many threads"
refusal_text TooManySays = codes "too many says"
refusal_text LiveTooSmall = codes "live limit too small"
refusal_text NoRate = codes "no rate"
refusal_text ReadFault = codes "read fault"
refusal_text OutOfMemory = codes "no memory"
refusal_text (TurnsUsed thread) = codes "turns used, thread " ++ decimal thread
refusal_text (BadOrder line) = codes "order line " ++ decimal line

-- the line in which a program of this name says it
abbrev pub refusal_line : List ℕ → Refusal → List ℕ
refusal_line name r = ended (name ++ codes ": " ++ refusal_text r)

-- the refusal for a fault of reading, and for a configuration without a rate
abbrev pub refusal_of : TraceFault → Refusal
refusal_of faults.ReadFault = ReadFault
refusal_of faults.TooLong = TooLong
refusal_of (faults.BadLine line why) = BadLine line why
refusal_of faults.OutOfMemory = OutOfMemory

abbrev pub refusal_of_plan : PlanFault → Refusal
refusal_of_plan plans.LiveTooSmall = LiveTooSmall
refusal_of_plan plans.NoRate = NoRate

-- ---- what was read of a source of which at most so many bytes are read as a text

-- this text was read, to its end; it is what the source told, where it told its bytes
pub record IsReadWhole (limit : ℕ) (source : Sides) (text : List ℕ) : Type 0 where
  pub told : IfSome source.bytes (λ bytes. bytes ≡ text)
  pub short : length text ≤ limit
  pub ended : IsAtEnd source.bytes source.bytes_now

-- the source was read to the first byte too many
abbrev pub IsReadTooFar : ℕ → Sides → Type 0
IsReadTooFar limit source = IfSome source.bytes (λ bytes.
    (limit < length bytes) × (source.bytes_now ≡ Some (drop (limit + 1) bytes)))

-- at most so many bytes were taken, the first ones
abbrev pub IsReadInPart : ℕ → Sides → Type 0
IsReadInPart limit source = TookAtMost (limit + 1) source.bytes source.bytes_now

-- why a text was not read: there are too many bytes, the source failed, or memory ran out
abbrev pub IsReadRefusal : ℕ → Sides → Refusal → Type 0
IsReadRefusal limit source TooLong = IsReadTooFar limit source × IsUnfailed source
IsReadRefusal limit source ReadFault =
    IsReadInPart limit source × Rose source.faults source.faults_now
IsReadRefusal limit source OutOfMemory = IsReadInPart limit source × IsUnfailed source
IsReadRefusal limit source r = ⊥

-- a text of which this holds was read, and no fault was counted
pub record HasRead (limit : ℕ) (P : List ℕ → Type 0) (source : Sides) : Type 0 where
  pub text : List ℕ
  pub whole : IsReadWhole limit source text
  pub holds : P text
  pub unfailed : IsUnfailed source

-- ---- what caused a refusal

-- no words: what a program is given that has one task
abbrev pub AreNone : List (List ℕ) → Type 0
AreNone words = words ≡ []

-- What caused a refusal, by the words, and by the source. Of a program these tell which words ask
-- for something, which ask for what needs a text, how many bytes a text has at most, and which text
-- causes which refusal.
module _ (Ask AskForText : List (List ℕ) → Type 0) (limit : ℕ)
    (Causes : List ℕ → Refusal → Type 0) where
  -- by a text that was read
  abbrev pub IsCausedByText : List (List ℕ) → Sides → Refusal → Type 0
  IsCausedByText words source r = AskForText words × HasRead limit (λ text. Causes text r) source

  abbrev pub IsCause : List (List ℕ) → Sides → Refusal → Type 0
  IsCause words source Usage = (Ask words → ⊥) × IsUntouched source
  IsCause words source ReadFault = AskForText words × IsReadRefusal limit source ReadFault
  IsCause words source OutOfMemory = Ask words × IsReadRefusal limit source OutOfMemory
  IsCause words source TooLong =
      (AskForText words × IsReadRefusal limit source TooLong) ⊎ IsCausedByText words source TooLong
  IsCause words source r = IsCausedByText words source r
