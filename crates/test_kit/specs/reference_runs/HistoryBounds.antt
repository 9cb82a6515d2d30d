-- Which histories the plain programs take.
use Rattle.std.specs.Prelude.{◌≤◌, ◌<◌, ◌^◌, List, length}
use Rattle.std.specs.List.{AllByRecursion}
use Rattle.block_store.specs.declared.Config.{Config}
use Rattle.block_store.specs.Configs.{IsInBounds}
use Rattle.never_heap.specs.Bounds.{IsCommandInBounds, IsCommandInRange}
use Rattle.never_heap.specs.Graphs.{Graph, count_of}
use Rattle.never_heap.specs.Histories.{HistoryItem, Started, Did, work_in}

-- an entry is one of a thread that there is, and its command is in its ranges
abbrev pub IsItemInBounds : Config → HistoryItem → Type 0
IsItemInBounds c Started = Unit {0}
IsItemInBounds c (Did e) = (e.thread < c.threads) × IsCommandInBounds c e.command

-- a configuration in its ranges, and a history of at most 131,072 items, each in its ranges, whose
-- works together stay below 2^64
pub record IsHistoryInBounds (c : Config) (h : List HistoryItem) : Type 0 where
  pub config : IsInBounds c
  pub few : length h ≤ 131072
  pub each : AllByRecursion (IsItemInBounds c) h
  pub work : work_in h < 2 ^ 64

-- an entry is one of a thread that the graph has, which has made fewer than 131,072 objects, and
-- its command is in range
abbrev pub CanFollow : Graph → HistoryItem → Type 0
CanFollow g Started = Unit {0}
CanFollow g (Did e) =
    (e.thread < length g.mutators) × IsCommandInRange e.command × (count_of g e.thread < 131072)
