-- A replay: the run of a job by the first turns of a schedule.
use Rattle.std.specs.Prelude.{ℕ, ◌≡◌, IfSome, List, [], ◌∷◌, map}
use Rattle.block_store.specs.declared.Config.{Config}
use Rattle.never_heap.specs.declared.Command.{Command}
use Rattle.never_heap.specs.HistoryOfOrder.{item_of}
use Rattle.heap_system.specs.Machines.{State, turned, Run, opened, after_turns, IsOpening}
use Rattle.heap_system.specs.Systems.{Whole, ordered_after}
use Rattle.rtheap_core.specs.declared.schedules.Schedule.{Schedule}
use Rattle.rtheap_core.specs.schedules.Schedules.{turns_of}

-- the run after the first turns of a schedule, from an opening of the job
pub record IsReplayed (c : Config) (traces : List (List Command)) (schedule : Schedule) (turns : ℕ)
    (r : Run) : Type 0 where
  pub first : State
  pub opening : IsOpening c traces first
  pub replayed : r ≡ after_turns c (opened c first) (turns_of schedule c first turns)

-- a system after a turn of thread t, with the order where it is kept
abbrev pub system_turned : ℕ → Whole → Whole
system_turned t w = record w {
  state = turned w.config t w.state;
  ordered = ordered_after w.config t w.state w.ordered;
}

-- and after a list of turns
abbrev pub system_after : Whole → List ℕ → Whole
system_after w [] = w
system_after w (t ∷ ts) = system_after (system_turned t w) ts

-- a system in the state of a run; where it keeps its order, that is the run's
pub record ShowsRun (c : Config) (r : Run) (w : Whole) : Type 0 where
  pub config : w.config ≡ c
  pub state : w.state ≡ r.state
  pub order : IfSome w.ordered (λ o. o.items ≡ map item_of r.order)
