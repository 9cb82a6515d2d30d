-- What a run of a job is: the one record that every promise on runs cites.
use Rattle.std.specs.Prelude.{ℕ, List}
use Rattle.block_store.specs.declared.Config.{Config}
use Rattle.never_heap.specs.declared.Command.{Command}
use Rattle.never_heap.specs.Histories.{HistoryItem, Legal, HasTraces}
use Rattle.never_heap.specs.Licensed.{Licensed}
use Rattle.never_heap.specs.RightWork.{RightWork}

-- The history of a job at this rate: it is legal, its parts are the traces, whole, each full is
-- licensed, and each entry made the units that its command owes.
pub record IsRun
    (c : Config) (rate : ℕ) (traces : List (List Command)) (h : List HistoryItem)
    : Type 0 where
  pub legal : Legal c h
  pub traces_whole : HasTraces traces h
  pub licensed : Licensed c h
  pub right_work : RightWork c.width rate h
