-- What a thread may be asked in its whole life.
use Rattle.std.specs.Prelude.{ℕ, ◌+◌, ◌-◌, ◌^◌, ◌≤◌, ◌≡◌, zero, suc, List, [], ◌∷◌, length}
use Rattle.std.specs.List.{AllByRecursion}
use Rattle.block_store.specs.declared.Config.{Config}
use Rattle.block_store.specs.Configs.{IsInBounds}
use Rattle.block_store.specs.Phases.{bit}
use Rattle.rate_plan.specs.Rates.{IsRate}
use Rattle.never_heap.specs.declared.Command.{Command}
use Rattle.never_heap.specs.Bounds.{IsCommandInBounds}
use Rattle.never_heap.specs.RightWork.{units_owed}
use Rattle.never_heap.specs.Steps.{makes_object}

-- the sum of a count over the commands after the first n
abbrev pub sum_after : (Command → ℕ) → ℕ → List Command → ℕ
sum_after f n [] = 0
sum_after f zero (k ∷ ks) = f k + sum_after f zero ks
sum_after f (suc n) (k ∷ ks) = sum_after f n ks

-- whether a command makes an object, as a number
abbrev pub objects_of : Command → ℕ
objects_of k = bit (makes_object k)

-- the most units that all commands of a thread may owe, the most objects that it may make, and the
-- most commands that can be counted
abbrev pub most_units : ℕ
most_units = 2 ^ 45

abbrev pub most_objects : ℕ
most_objects = 2 ^ 43 - 1

abbrev pub most_commands : ℕ
most_commands = 2 ^ 60

-- the commands of a thread, each in its ranges
pub record AreCommands (c : Config) (trace : List Command) : Type 0 where
  pub few : length trace ≤ most_commands
  pub commands : AllByRecursion (IsCommandInBounds c) trace

-- A life: what its commands owe at the configuration's rate is at most 2^45 units, and fewer than
-- 2^43 of them make an object. Of the others there may be any number.
pub record IsLife (c : Config) (trace : List Command) : Type 0 where
  pub asked : AreCommands c trace
  pub units : (rate : ℕ) → IsRate c rate → sum_after (units_owed c.width rate) 0 trace ≤ most_units
  pub objects : sum_after objects_of 0 trace ≤ most_objects

-- a configuration in its ranges, and a life for each of its threads
pub record AreLives (c : Config) (traces : List (List Command)) : Type 0 where
  pub config : IsInBounds c
  pub threads : length traces ≡ c.threads
  pub each : AllByRecursion (IsLife c) traces
