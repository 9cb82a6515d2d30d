-- A system as contracts see it, and what a finished run of it shows.
use Rattle.std.specs.Prelude.{ℕ, ◌+◌, ◌-◌, ◌<◌, ◌≡◌, ◌++◌, true, false, if◌then◌else◌, Option, Some, None, IfSome, List, [], ◌∷◌, map, length, slice_index_or}
use Rattle.block_store.specs.declared.Config.{Config}
use Rattle.never_heap.specs.declared.Command.{Command}
use Rattle.never_heap.specs.declared.Entry.{Entry}
use Rattle.never_heap.specs.declared.Item.{Item}
use Rattle.never_heap.specs.declared.Item.TheVariants as items
use Rattle.never_heap.specs.Histories.{parts, starts_in, work_in}
use Rattle.never_heap.specs.HistoryOfOrder.{item_of, IsHistoryOf}
use Rattle.never_heap.specs.Runs.{IsRun}
use Rattle.rate_plan.specs.Rates.{IsRate}
use Rattle.heap_system.specs.Locals.{LocalState, Effect, Verdict, Open, AsStep, Refused, is_done, works}
use Rattle.heap_system.specs.Machines.{State, local_at, next_effect, has_event, Run, opened, IsJob, IsRunOf}
use Rattle.heap_system.specs.Naming.{Naming, Begun}
use Rattle.heap_system.specs.Units.{units_made, AreMadeFor}

-- an order as a system keeps it: its items so far, and how many events may still be made
pub record Ordered : Type 0 where
  pub items : List Item
  pub left : ℕ

-- the configuration, the words and each thread, and the order where it is kept
pub record Whole : Type 0 where
  pub config : Config
  pub state : State
  pub ordered : Option Ordered

-- the configuration, the logs, the number of cycles of a finished run, and its order where it was
-- kept
pub record Finish : Type 0 where
  pub config : Config
  pub logs : List (List Entry)
  pub cycles : ℕ
  pub order : Option (List Item)

-- the order of an opening, with the start of cycle 1, for this many events
abbrev pub opening_order : ℕ → Ordered
opening_order turns = record { items = items.Start ∷ []; left = turns }

-- the items of an order, where it is kept
abbrev pub items_kept : Option Ordered → Option (List Item)
items_kept None = None
items_kept (Some o) = Some o.items

-- what an event of thread t adds to the items: its next entry where the event decides the command,
-- and a start where it starts a cycle
abbrev pub entry_item : ℕ → Verdict → List Item
entry_item t Open = []
entry_item t AsStep = items.Entry t ∷ []
entry_item t (Refused reply) = items.Entry t ∷ []

abbrev pub start_item : Naming → List Item
start_item Begun = items.Start ∷ []
start_item _ = []

abbrev pub items_by_effect : ℕ → Effect → List Item
items_by_effect t e = entry_item t e.verdict ++ start_item e.naming

-- what a turn of thread t adds to them
abbrev pub items_added : Config → ℕ → State → List Item
items_added c t s = if has_event c t s then items_by_effect t (next_effect c s t) else []

-- the order after a turn of thread t: an event adds its items, and one event less is left
abbrev pub after_event : Config → ℕ → State → Ordered → Ordered
after_event c t s o = record { items = o.items ++ items_added c t s; left = o.left - 1 }

abbrev pub ordered_after : Config → ℕ → State → Option Ordered → Option Ordered
ordered_after c t s None = None
ordered_after c t s (Some o) = Some (if has_event c t s then after_event c t s o else o)

-- what each thread was told to do
abbrev pub traces_of : State → List (List Command)
traces_of s = map (λ (l : LocalState). l.trace) s.locals

-- how many commands that is
abbrev pub commands_in : List (List Command) → ℕ
commands_in [] = 0
commands_in (trace ∷ traces) = length trace + commands_in traces

-- what each thread's log holds
abbrev pub logs_of : State → List (List Entry)
logs_of s = map (λ (l : LocalState). l.log) s.locals

abbrev pub AllDone : Config → State → Type 0
AllDone c s = (t : ℕ) → t < c.threads → is_done (local_at c s t) ≡ true

-- the state after some list of turns over a job, with the order of that list
pub record IsReached (c : Config) (s : State) : Type 0 where
  pub job : IsJob c (traces_of s)
  pub turns : List ℕ
  pub run : Run
  pub by_turns : IsRunOf c (traces_of s) turns run
  pub state : s ≡ run.state

-- the state after some list of turns over a job, and the order that is kept is that of this list
pub record IsReachedInOrder (c : Config) (s : State) (order : Option (List Item)) : Type 0 where
  pub reached : IsReached c s
  pub items : IfSome order (λ o. o ≡ map item_of reached.run.order)

-- the sum of the works of all logs
abbrev pub units_of : List (List Entry) → ℕ
units_of [] = 0
units_of (log ∷ logs) = works log + units_of logs

-- The logs are the parts of the order of some list of turns after which all threads are done, and
-- the cycles are its starts. The order is a run of the traces, at the rate of the configuration.
-- The work of each entry of a log is the units that the turns of its thread made for its command,
-- the works of a log are all that they made, and those of all logs the work of the order.
pub record IsFinished (c : Config) (traces : List (List Command)) (logs : List (List Entry))
    (cycles : ℕ) : Type 0 where
  pub turns : List ℕ
  pub run : Run
  pub job : IsJob c traces
  pub by_turns : IsRunOf c traces turns run
  pub done : AllDone c run.state
  pub logged : logs ≡ logs_of run.state
  pub parts_logged : logs ≡ parts c.threads run.order
  pub is_run : (rate : ℕ) → IsRate c rate → IsRun c rate traces run.order
  pub starts : cycles ≡ starts_in run.order
  pub made : (t : ℕ) → t < c.threads → works (slice_index_or logs t [])
      ≡ units_made c t (opened c by_turns.first) turns
  pub each : (t : ℕ) → t < c.threads
      → AreMadeFor c t (slice_index_or logs t []) (opened c by_turns.first) turns
  pub works : work_in run.order ≡ units_of logs

-- and the order that was kept makes the history of this list of turns, with the logs
pub record IsFinishedInOrder (c : Config) (traces : List (List Command))
    (logs : List (List Entry)) (cycles : ℕ) (order : Option (List Item)) : Type 0 where
  pub finished : IsFinished c traces logs cycles
  pub history : IfSome order (λ o. IsHistoryOf o logs finished.run.order)

-- thread t is the least that is not done
pub record IsLeastUndone (c : Config) (s : State) (t : ℕ) : Type 0 where
  pub there : t < c.threads
  pub undone : is_done (local_at c s t) ≡ false
  pub least : (u : ℕ) → u < t → is_done (local_at c s u) ≡ true
