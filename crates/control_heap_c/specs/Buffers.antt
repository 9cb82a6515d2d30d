-- Bytes that a call from C writes to the caller's memory.
use Rattle.std.specs.Prelude.{ℕ, ◌≡◌, ◌≤◌, ◌<◌, ◌++◌, Result, Ok, Err, List, drop, length}

-- The caller's memory has room for these bytes, and has them at its front after the call. So many
-- they are.
pub record HasWritten (bytes before after : List ℕ) (count : ℕ) : Type 0 where
  pub fits : length bytes ≤ length before
  pub written : after ≡ bytes ++ drop (length bytes) before
  pub count_is : count ≡ length bytes

-- it has no room for them, and is unchanged
pub record HasNoRoom (bytes before after : List ℕ) (count : ℕ) : Type 0 where
  pub few : length before < length bytes
  pub unchanged : after ≡ before
  pub count_is : count ≡ length bytes

-- either: how many bytes there are
abbrev pub IsCopied : List ℕ → List ℕ → List ℕ → Result ℕ ℕ → Type 0
IsCopied bytes before after (Ok n) = HasWritten bytes before after n
IsCopied bytes before after (Err n) = HasNoRoom bytes before after n
