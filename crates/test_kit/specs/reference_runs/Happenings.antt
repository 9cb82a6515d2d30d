-- What happened in a run, as a history.
use Rattle.std.specs.Prelude.{List, [], ◌∷◌, map}
use Rattle.never_heap.specs.Histories.{HistoryItem, Started, Did}
use Rattle.test_kit.specs.declared.reference_runs.Happened.{Happened}
use Rattle.test_kit.specs.declared.reference_runs.Happened.TheVariants as happened

-- an item of a history
abbrev pub item : Happened → HistoryItem
item happened.Started = Started
item (happened.Did e) = Did e

-- the history
abbrev pub history : List Happened → List HistoryItem
history h = map item h

-- the first item is a start
abbrev pub BeginsWithStart : List HistoryItem → Type 0
BeginsWithStart [] = ⊥
BeginsWithStart (Started ∷ h) = Unit {0}
BeginsWithStart (Did e ∷ h) = ⊥
