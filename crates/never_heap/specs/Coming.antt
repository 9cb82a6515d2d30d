-- Which items may come next in a run.
use Rattle.std.specs.Prelude.{ℕ, ◌≡◌, false, List, [], ◌∷◌, ◌++◌, length, drop, slice_index_or}
use Rattle.block_store.specs.declared.Config.{Config}
use Rattle.never_heap.specs.declared.Command.{Command}
use Rattle.never_heap.specs.Histories.{HistoryItem, Started, Did, is_full, IsAnswered, part, replay}
use Rattle.never_heap.specs.Licensed.{IsLicensedItem}
use Rattle.never_heap.specs.RightWork.{IsRightWork}

-- the commands of its trace that a thread has left after these items
abbrev pub left_of : List (List Command) → List HistoryItem → ℕ → List Command
left_of traces past t = drop (length (part t past)) (slice_index_or traces t [])

-- an entry is one of its thread's next command
abbrev pub IsNext : List (List Command) → List HistoryItem → HistoryItem → Type 0
IsNext traces past Started = Unit {0}
IsNext traces past (Did e) =
    (rest : List Command) × (left_of traces past e.thread ≡ e.command ∷ rest)

-- after these items this one may come in a run
pub record MayCome
    (c : Config) (rate : ℕ) (traces : List (List Command))
    (past : List HistoryItem) (i : HistoryItem)
    : Type 0 where
  pub first : past ≡ [] → i ≡ Started
  pub next : IsNext traces past i
  pub answered : IsAnswered (replay c past) i
  pub licensed : IsLicensedItem c past i
  pub right_work : IsRightWork c.width rate i

-- after these items each of the others may come in its turn
abbrev pub AllMayCome :
    Config → ℕ → List (List Command) → List HistoryItem → List HistoryItem → Type 0
AllMayCome c rate traces past [] = Unit {0}
AllMayCome c rate traces past (i ∷ is) =
    MayCome c rate traces past i × AllMayCome c rate traces (past ++ i ∷ []) is

-- an item is no entry answered full
abbrev pub IsNoFull : HistoryItem → Type 0
IsNoFull Started = Unit {0}
IsNoFull (Did e) = is_full e.reply ≡ false
