-- How many turns a thread makes at most where its board has no other: a job of its trace alone.
use Rattle.std.specs.Prelude.{ℕ, ◌<◌, ◌≤◌, ◌≡◌, false, [], ◌∷◌}
use Rattle.rate_plan.specs.Rates.{IsRate}
use Rattle.heap_system.specs.Locals.{LocalState, is_done}
use Rattle.heap_system.specs.Serials.{job_bound}

-- what the bounds of its commands sum up to, at this rate
abbrev pub lone_turns : ℕ → LocalState → ℕ
lone_turns rate l = job_bound l.config rate (l.trace ∷ [])

-- it has made at most so many turns, and fewer while it is not done
pub record IsInTime (rate : ℕ) (l : LocalState) (turns : ℕ) : Type 0 where
  pub most : turns ≤ lone_turns rate l
  pub fewer : is_done l ≡ false → turns < lone_turns rate l

-- so it is where its configuration has one thread
abbrev pub EndsAlone : LocalState → ℕ → Type 0
EndsAlone l turns = (rate : ℕ) → IsRate l.config rate → l.config.threads ≡ 1 → IsInTime rate l turns
