-- What a job may hold.
use Rattle.std.specs.Prelude.{◌≤◌, ◌≡◌, List, length}
use Rattle.std.specs.List.{AllByRecursion}
use Rattle.block_store.specs.declared.Config.{Config}
use Rattle.block_store.specs.Configs.{IsInBounds}
use Rattle.never_heap.specs.declared.Command.{Command}
use Rattle.never_heap.specs.Bounds.{IsCommandInBounds}

-- a trace: at most 131,072 commands, each in its ranges
pub record IsTraceInBounds (c : Config) (trace : List Command) : Type 0 where
  pub few : length trace ≤ 131072
  pub commands : AllByRecursion (IsCommandInBounds c) trace

-- a job: a configuration in its ranges, and a trace for each of its threads
pub record IsJobInBounds (c : Config) (traces : List (List Command)) : Type 0 where
  pub config : IsInBounds c
  pub threads : length traces ≡ c.threads
  pub each : AllByRecursion (IsTraceInBounds c) traces
