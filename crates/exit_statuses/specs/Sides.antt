-- A source or a sink before and after a call.
use Rattle.std.specs.Prelude.{ℕ, ◌≡◌, List, Option}

pub record Sides : Type 0 where
  -- the bytes left in a source, or held by a sink, where it tells them
  pub bytes : Option (List ℕ)
  pub bytes_now : Option (List ℕ)
  -- how many faults it has counted
  pub faults : ℕ
  pub faults_now : ℕ

-- by what it tells of its bytes and counts, old and new
abbrev pub sides : {X : Type 0} → (X → Option (List ℕ)) → (X → ℕ) → X → X → Sides
sides bytes faults old new = record {
  bytes = bytes old;
  bytes_now = bytes new;
  faults = faults old;
  faults_now = faults new;
}

-- it counted no fault
abbrev pub IsUnfailed : Sides → Type 0
IsUnfailed s = s.faults_now ≡ s.faults

-- nothing was taken from the source
abbrev pub IsUntouched : Sides → Type 0
IsUntouched source = (source.bytes_now ≡ source.bytes) × IsUnfailed source
