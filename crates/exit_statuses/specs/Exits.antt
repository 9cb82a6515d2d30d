-- How a call ended, whatever it was given, and what it has to answer.
use Rattle.std.specs.Prelude.{ℕ, ◌≡◌, ◌≢◌, ◌≤◌, ◌<◌, ◌⊎◌, ◌↔◌, List, [], ◌∷◌, length, IfSome}
use Rattle.trace_text.specs.Faults.{Rose}
use Rattle.trace_text.specs.Streams.{Appends, AppendsPrefix}
use Rattle.exit_statuses.specs.declared.refusal.Refusal.{Refusal}
use Rattle.exit_statuses.specs.Refusals.{status_of, refusal_line, HasRead, IsCause}
use Rattle.exit_statuses.specs.Sides.{Sides}

-- The words that a call was given, its source and its sink, and what it answered: `due` is the
-- status by all but the writing, and `status` is `due`, or 6 where the writing failed.
pub record Exit : Type 0 where
  pub words : List (List ℕ)
  pub source : Sides
  pub sink : Sides
  pub status : ℕ
  pub due : ℕ

-- the text was appended where the status is 0, and a prefix of it where the writing failed
pub record IsWritten (sink : Sides) (status : ℕ) (text : List ℕ) : Type 0 where
  pub whole : status ≡ 0 → Appends sink.bytes sink.bytes_now text
  pub prefix : status ≡ 6 → AppendsPrefix sink.bytes sink.bytes_now text

-- how the writing ended: a fault of the sink is the status 6, and there is no other status than
-- that and `due`
pub record IsToldBy (sink : Sides) (status due : ℕ) : Type 0 where
  pub any_status : (status ≡ due) ⊎ (status ≡ 6)
  pub still : status ≢ 6 → sink.faults_now ≡ sink.faults
  pub rose : status ≡ 6 → Rose sink.faults sink.faults_now

-- what `due` may be, where a program has these statuses beside those that each has
abbrev pub IsOneOf : List ℕ → ℕ → Type 0
IsOneOf [] due = ⊥
IsOneOf (k ∷ ks) due = (due ≡ k) ⊎ IsOneOf ks due

abbrev pub IsDue : List ℕ → ℕ → Type 0
IsDue own due = IsOneOf (0 ∷ 2 ∷ 3 ∷ 5 ∷ 7 ∷ own) due

-- it is k, unless the source failed or the answer is want of memory
abbrev pub IsDueOrFails : ℕ → ℕ → Type 0
IsDueOrFails k due = (due ≡ k) ⊎ ((due ≡ 5) ⊎ (due ≡ 7))

-- it is k for a text of which this holds, unless the source fails or the answer is want of memory
abbrev pub IsDueFor : ℕ → (List ℕ → Type 0) → Exit → Type 0
IsDueFor k P x = IfSome x.source.bytes (λ bytes. P bytes → IsDueOrFails k x.due)

-- without a fault of a stream a call that is done or fails is done, or it is want of memory
abbrev pub IsDoneUnfailed : Sides → Sides → ℕ → ℕ → Type 0
IsDoneUnfailed source sink status due =
    (Rose source.faults source.faults_now → ⊥) → (Rose sink.faults sink.faults_now → ⊥)
    → IsDueOrFails 0 due → (status ≡ 0) ⊎ (status ≡ 7)

module _ (Ask AskForText : List (List ℕ) → Type 0) (limit : ℕ)
    (Causes : List ℕ → Refusal → Type 0) where
  -- A refused call: its status is that of a refusal with its cause, and the line in which a program
  -- of this name says it was appended, or a prefix of that line.
  pub record IsRefused (name : List ℕ) (x : Exit) : Type 0 where
    pub refusal : Refusal
    pub is_due : x.due ≡ status_of refusal
    pub cause : IsCause Ask AskForText limit Causes x.words x.source refusal
    pub line : x.status ≢ 6 → Appends x.sink.bytes x.sink.bytes_now (refusal_line name refusal)
    pub prefix : x.status ≡ 6
        → AppendsPrefix x.sink.bytes x.sink.bytes_now (refusal_line name refusal)

  -- How a call of a program of this name ended. `IsFine` tells which texts are to be carried out,
  -- and `own` which statuses a text may cause beside 3.
  pub record IsEnded (IsFine : List ℕ → Type 0) (own : List ℕ) (name : List ℕ) (x : Exit) : Type 0
    where
      -- Each status has its cause, and there is no other status.
      pub done : x.due ≡ 0 → Ask x.words × (AskForText x.words → HasRead limit IsFine x.source)
      pub refused : x.due ≢ 0 → IsRefused name x
      pub any_due : IsDue own x.due
      pub any_status : (x.status ≡ x.due) ⊎ (x.status ≡ 6)
      pub usage : (x.due ≡ 2) ↔ (Ask x.words → ⊥)
      -- A fault is that of its stream, and each is told.
      pub read_fault : x.due ≡ 5 → Rose x.source.faults x.source.faults_now
      pub read_fault_told : x.source.faults < x.source.faults_now → x.due ≡ 5
      pub write_fault : x.status ≡ 6 → Rose x.sink.faults x.sink.faults_now
      pub write_fault_told : x.sink.faults < x.sink.faults_now → x.status ≡ 6
      -- A known text has one answer.
      pub too_long : AskForText x.words → IsDueFor 3 (λ bytes. limit < length bytes) x
      pub caused : AskForText x.words → (r : Refusal)
          → IsDueFor (status_of r) (λ bytes. (length bytes ≤ limit) × Causes bytes r) x
      pub fine : AskForText x.words
          → IsDueFor 0 (λ bytes. (length bytes ≤ limit) × IsFine bytes) x
      -- Without a fault of a stream the text is carried out, or the answer is want of memory.
      pub unfailed : IsDoneUnfailed x.source x.sink x.status x.due
