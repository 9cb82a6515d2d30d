-- Counts of faults.
use Rattle.std.specs.Prelude.{ℕ, ◌-◌, ◌^◌, ◌≤◌, ◌<◌, ◌≢◌}

-- the count rose; at its last value it is still
pub record Rose (before now : ℕ) : Type 0 where
  pub kept : before ≤ now
  pub more : before ≢ 2 ^ 64 - 1 → before < now
